pub mod Flat
pub mod Shape
pub mod Rows
pub mod Meanings
