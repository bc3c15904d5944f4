pub mod Making
pub mod Undoing
mod Writing
