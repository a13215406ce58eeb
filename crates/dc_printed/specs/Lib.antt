pub mod Fits
pub mod Brackets
pub mod Laws
