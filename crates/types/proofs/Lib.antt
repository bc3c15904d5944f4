pub mod Bits
mod MapInPlace
mod Rounds
pub mod Having
pub mod Leading
pub mod Fitting
pub mod Declaring
pub mod Implying
