pub mod Duties
pub mod Claims
pub mod Parts
pub mod Problems
pub mod Plans
pub mod Blocks
pub mod Runs
pub mod Laws
