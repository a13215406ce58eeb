pub mod Indices
pub mod Flats
pub mod Links
pub mod Loads
