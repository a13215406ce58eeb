pub mod Monomials
pub mod Spots
pub mod Entries
pub mod Laws
