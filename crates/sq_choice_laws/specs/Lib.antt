pub mod Leaving
pub mod Overlapping
pub mod Noted
pub mod ReadNotes
