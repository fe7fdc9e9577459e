-- Machinery, cited by private contracts alone: no promise rests on it.
pub mod Begun
pub mod Lines
pub mod Drafts
