pub mod Rules
pub mod Changes
pub mod Records
pub mod Covers
pub mod Builds
pub mod Slides
pub mod Tails
pub mod Words
