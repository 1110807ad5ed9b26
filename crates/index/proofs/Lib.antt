-- Laws that belong to no one function.
pub mod Located
pub mod PastPages
pub mod NotePass
pub mod NoteSweep
pub mod NotesSwept
pub mod Whole
pub mod FastLaws
