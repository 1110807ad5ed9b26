-- Laws that belong to no one function.
pub mod Differences
pub mod Images
pub mod Judged
pub mod LaneSums
pub mod Late
pub mod Multiples
pub mod Pairs
pub mod Past
pub mod Turns
pub mod Weighed
