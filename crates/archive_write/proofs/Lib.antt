pub mod Copies
pub mod Columns
pub mod Fronts
pub mod Outcomes
