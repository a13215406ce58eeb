pub mod Prices
pub mod Folds
pub mod Certified
pub mod Least
pub mod Accepted
