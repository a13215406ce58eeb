pub mod Vectors
pub mod Ranges
pub mod Claims
pub mod Settings
