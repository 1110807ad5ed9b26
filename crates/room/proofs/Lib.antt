-- Laws that belong to no one function.
pub mod FullLog
pub mod FullNotes
