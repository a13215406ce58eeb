pub mod Forms
pub mod Table
pub mod Atoms
pub mod Gaps
pub mod Whole
pub mod Laws
