pub mod Unchanged
pub mod Told
pub mod Histories
pub mod MendTold
