pub mod Archive
pub mod SameChange
pub mod Mirror
