-- Laws that belong to no one function.
pub mod Rows
pub mod Outcomes
pub mod Open
pub mod Parts
