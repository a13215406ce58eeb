pub mod Keys
pub mod Texts
pub mod Parts
pub mod Runs
pub mod Loops
pub mod Inductions
pub mod PlainRuns
