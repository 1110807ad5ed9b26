pub mod Room
pub mod Bytes
pub mod Lowest
pub mod Told
pub mod Blank
pub mod Sizes
