pub mod Disk
pub mod Steps
pub mod Text
