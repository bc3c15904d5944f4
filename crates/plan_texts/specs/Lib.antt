pub mod Reading
pub mod ReadingLaws
pub mod Writing
pub mod Outcomes
