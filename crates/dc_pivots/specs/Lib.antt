pub mod Runs
pub mod Vectors
pub mod FieldLaws
pub mod Outcomes
pub mod Laws
