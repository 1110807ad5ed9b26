pub mod OpenedForC
pub mod Faces
pub mod Reported
pub mod Given
pub mod Listing
pub mod Stated
pub mod Failing
