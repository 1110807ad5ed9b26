pub mod Claims
pub mod Reports
pub mod Theorem
pub mod Told
pub mod MendTold
pub mod Reading
pub mod Histories
