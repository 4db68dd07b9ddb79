pub mod Contents
pub mod Acting
