-- Laws that belong to no one function.
pub mod PageStarts
pub mod Cases
