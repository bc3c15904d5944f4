pub mod Faults
pub mod Kinds
pub mod Numbered
pub mod Split
