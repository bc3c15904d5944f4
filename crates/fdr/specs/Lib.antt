pub mod Tables
pub mod Limits
pub mod Admission
pub mod Engine
pub mod Naming
pub mod Source
pub mod SourceLaws
