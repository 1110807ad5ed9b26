-- Laws that belong to no one function.
pub mod Search
pub mod LogPositions
pub mod NotePass
pub mod NotePositions
pub mod Slots
pub mod Advice
