pub mod Listed
pub mod Links
pub mod Laws
