pub mod Graphs
pub mod Families
pub mod Moves
pub mod Rounds
pub mod Printed
pub mod Laws
