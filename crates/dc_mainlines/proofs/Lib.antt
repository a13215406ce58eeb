pub mod Pairs
pub mod Sweeps
pub mod Tests
pub mod Order
pub mod Tested
pub mod Shown
pub mod Mains
