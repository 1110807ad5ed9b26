pub mod TwoPages
pub mod Idle
pub mod Kept
