pub mod Stores
pub mod Mendings
pub mod Rules
