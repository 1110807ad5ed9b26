pub mod Upkeep
pub mod UpkeepClaim
