pub mod Rehearsal
pub mod RehearsalRun
pub mod RehearsalClaim
