pub mod Coordinates
pub mod Bounds
pub mod Duals
pub mod Combinations
pub mod Farkas
pub mod Same
pub mod Flags
pub mod Whole
mod Examples
