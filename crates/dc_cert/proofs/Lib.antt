pub mod SameParts
pub mod VectorLaws
pub mod Returned
