pub mod Trimming
pub mod Through
pub mod Restoring
pub mod Outcomes
pub mod Beginnings
pub mod Turns
pub mod Runs
pub mod Holding
pub mod Soundness
pub mod Padding
pub mod Widths
pub mod Writing
pub mod Undoing
mod Cuts
mod Pushing
mod Rest
mod Opening
mod Editing
mod Answering
mod Performing
