-- Laws that belong to no one function.
pub mod RowLaws
pub mod Conjunctions
pub mod Located
pub mod LogPass
pub mod LogSweep
pub mod LogSwept
