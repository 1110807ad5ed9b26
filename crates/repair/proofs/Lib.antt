-- Laws that belong to no one function.
pub mod Rows
pub mod Links
pub mod Walks
pub mod Starts
pub mod Replays
pub mod Scanned
pub mod Unbroken
