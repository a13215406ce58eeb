pub mod Starts
pub mod Ratios
pub mod Changes
