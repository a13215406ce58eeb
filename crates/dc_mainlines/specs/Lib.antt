pub mod Paired
pub mod Laws
pub mod Sums
