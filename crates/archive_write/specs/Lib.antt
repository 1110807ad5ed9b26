pub mod Copied
pub mod Extent
