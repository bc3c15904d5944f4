mod Rows
mod Progress
mod Goals
mod Lines
