pub mod Applied
pub mod Followed
pub mod Kept
