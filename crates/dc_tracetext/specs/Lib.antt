pub mod Text
pub mod Stages
pub mod Faults
