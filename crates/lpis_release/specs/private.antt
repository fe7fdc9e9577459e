-- Machinery, cited by private contracts alone: no promise rests on it.
pub mod Groups
pub mod Joined
pub mod Weights
