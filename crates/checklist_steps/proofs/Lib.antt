pub mod Damage
pub mod Outcomes
pub mod Same
pub mod Verdicts
