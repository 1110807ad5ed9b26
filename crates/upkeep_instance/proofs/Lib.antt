pub mod Advised
pub mod Comes
pub mod TwoPages
pub mod Promises
pub mod OneSlot
