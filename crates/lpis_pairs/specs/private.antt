-- Machinery, cited by private contracts alone: no promise rests on it.
pub mod Sweeping
pub mod Strips
pub mod Overlaps
pub mod Holding
