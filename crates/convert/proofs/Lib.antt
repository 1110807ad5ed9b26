-- Laws that belong to no one function.
pub mod Rows
pub mod Places
pub mod Outcomes
