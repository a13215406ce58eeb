pub mod Sizes
pub mod Lists
pub mod Lent
pub mod Tasks
