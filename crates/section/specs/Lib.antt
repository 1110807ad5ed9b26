pub mod Section
pub mod Sweep
