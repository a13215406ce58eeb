pub mod Binomials
pub mod Ends
