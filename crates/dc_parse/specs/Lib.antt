pub mod Faults
pub mod Outcomes
pub mod Forms
pub mod Steps
pub mod Judges
pub mod Answers
pub mod Laws
