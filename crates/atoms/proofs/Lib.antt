pub mod Numbering
pub mod OneAtom
mod Laying
pub mod Room
pub mod Finding
pub mod ReadsTrees
mod ReadsCode
pub mod TruthOfTrees
pub mod FindsTrees
mod Listed
pub mod Effects
pub mod Fronts
