-- Laws that belong to no one function.
pub mod SectionLaws
pub mod GuessLaws
pub mod SweepLaws
