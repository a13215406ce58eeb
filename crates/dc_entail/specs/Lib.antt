pub mod Answers
pub mod Asked
pub mod Columns
pub mod Equal
pub mod Sites
