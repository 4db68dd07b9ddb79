pub mod DecidingLaws
pub mod Lent
pub mod Values
