-- Laws that belong to no one function.
pub mod Lists
pub mod Forced
pub mod Fits
pub mod Slots
pub mod Tables
