pub mod Changes
pub mod Ratios
pub mod Tallies
pub mod Loads
