pub mod Rings
pub mod NotesAbove
