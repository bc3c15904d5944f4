pub mod Scans
pub mod Checks
pub mod Marks
