pub mod Inputs
pub mod Faults
pub mod Bodies
pub mod Parts
