pub mod Image
pub mod Host
pub mod ImagePromises
pub mod Office
pub mod Courier
pub mod Lending
