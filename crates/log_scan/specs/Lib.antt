pub mod Rows
pub mod LogSection
pub mod LogPassed
pub mod LogSwept
