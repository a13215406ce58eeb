pub mod Texts
pub mod Checks
pub mod One
pub mod Meanings
