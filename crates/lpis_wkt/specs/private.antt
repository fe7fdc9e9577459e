-- Machinery, cited by private contracts alone: no promise rests on it.
pub mod Coming
pub mod Coordinates
pub mod Machine
pub mod Parsing
pub mod Runs
pub mod Views
