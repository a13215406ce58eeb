pub mod Procedures
pub mod Laws
