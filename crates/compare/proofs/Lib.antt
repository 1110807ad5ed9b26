pub mod Beginnings
pub mod Marks
pub mod Outcomes
pub mod Reports
