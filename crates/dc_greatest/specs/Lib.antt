pub mod Kept
pub mod Bounds
pub mod Refusals
pub mod Parts
pub mod Answers
pub mod Searches
pub mod Lent
pub mod Laws
