pub mod Front
pub mod Fronts
pub mod Numbers
pub mod OnlyAscii
pub mod Readings
pub mod Steps
