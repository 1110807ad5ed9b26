pub mod Machines
pub mod Left
pub mod History
pub mod Contracts
pub mod Told
pub mod Reading
