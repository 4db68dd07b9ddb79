pub mod Runs
pub mod Reading
pub mod Pieces
pub mod Writing
pub mod Refusals
