pub mod Analyses
pub mod Certificates
pub mod Stops
pub mod Repeated
pub mod Examples
