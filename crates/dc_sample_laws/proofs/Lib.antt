pub mod Forms
pub mod Texts
pub mod Programs
pub mod Printed
pub mod Pairs
pub mod Condition
pub mod Faults
