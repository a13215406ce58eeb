pub mod Columns
pub mod Weights
pub mod Whole
pub mod Extending
