pub mod Lists
pub mod AtStates
pub mod Sides
pub mod Unknowing
