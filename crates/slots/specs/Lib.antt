pub mod Cache
pub mod Search
