pub mod ArgumentLaws
pub mod SlotLaws
pub mod SpaceLaws
pub mod FailingLaws
pub mod AdviceLaws
