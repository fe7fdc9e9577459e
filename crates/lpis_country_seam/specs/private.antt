-- Machinery, cited by private contracts alone: no promise rests on it.
pub mod Kept
pub mod Testing
pub mod Stepping
