pub mod Tight
pub mod LeavesLaws
pub mod Demands
pub mod Discovery
pub mod Defined
pub mod Courier
pub mod Office
pub mod Lists
