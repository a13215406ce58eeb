pub mod Choices
pub mod Products
