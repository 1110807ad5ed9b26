-- Laws that belong to no one function.
pub mod Cuts
pub mod Records
pub mod Images
pub mod Wholes
pub mod Outcomes
