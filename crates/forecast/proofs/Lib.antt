pub mod Fills
pub mod Outcomes
