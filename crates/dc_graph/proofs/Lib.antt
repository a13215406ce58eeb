pub mod Parts
pub mod Forward
pub mod Back
pub mod Inside
