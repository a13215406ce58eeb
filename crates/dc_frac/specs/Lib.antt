pub mod Fits
pub mod Parts
pub mod Value
pub mod Laws
