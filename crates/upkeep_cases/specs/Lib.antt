pub mod Stores
pub mod Upkeeps
pub mod Turns
pub mod Discipline
