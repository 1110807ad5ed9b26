pub mod Rows
pub mod Outcomes
pub mod Releases
