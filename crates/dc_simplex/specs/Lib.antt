pub mod Limits
pub mod Outcomes
pub mod Ends
pub mod Steps
