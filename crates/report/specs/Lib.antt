pub mod PlanTexts
pub mod Turns
pub mod Runs
pub mod Reports
