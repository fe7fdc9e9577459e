-- Machinery, cited by private contracts alone: no promise rests on it.
pub mod Characters
pub mod Columns
pub mod Header
pub mod Keyed
pub mod Left
pub mod Percent
pub mod Stops
