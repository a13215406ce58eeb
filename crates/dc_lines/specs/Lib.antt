pub mod Bytes
pub mod Cuts
pub mod Fields
pub mod Texts
