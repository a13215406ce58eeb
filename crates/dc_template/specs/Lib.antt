pub mod Monomials
pub mod Columns
pub mod Templates
