-- Laws that belong to no one function.
pub mod Rows
pub mod Outcomes
pub mod Room
pub mod Parts
