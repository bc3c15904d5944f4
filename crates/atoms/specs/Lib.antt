pub mod Layouts
pub mod Laying
pub mod Formulas
pub mod Reading
pub mod Judging
pub mod Admitting
pub mod Changes
pub mod Entailment
