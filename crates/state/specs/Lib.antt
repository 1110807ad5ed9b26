pub mod Clauses
pub mod Resumed
pub mod Reply
