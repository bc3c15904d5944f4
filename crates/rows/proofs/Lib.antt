pub mod Scanning
pub mod Elements
pub mod Distincts
pub mod Rows
pub mod Firsts
pub mod Repeating
pub mod Naming
