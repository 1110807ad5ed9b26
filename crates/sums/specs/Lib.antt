pub mod Sums
pub mod Lanes
pub mod Words
pub mod Quads
pub mod Products
pub mod Terms
