-- Machinery, cited by private contracts alone: no promise rests on it.
pub mod Insides
pub mod Reaches
pub mod Slots
pub mod Spans
pub mod Starts
pub mod Strips
pub mod Visits
