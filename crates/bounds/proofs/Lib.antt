pub mod Changes
pub mod States
pub mod Readers
pub mod Carries
pub mod Rings
pub mod Shown
pub mod Rooms
pub mod Appends
