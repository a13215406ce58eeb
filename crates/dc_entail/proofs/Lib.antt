pub mod Refusals
pub mod Equal
pub mod Build
pub mod Problems
pub mod Telling
