pub mod Counts
pub mod Lines
pub mod OneSide
pub mod Early
pub mod Fits
pub mod Bodies
pub mod Mains
pub mod Told
