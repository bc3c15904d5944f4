pub mod Numbers
pub mod ChangeLists
pub mod Meanings
pub mod Leading
pub mod Lines
pub mod Names
