-- Machinery, cited by private contracts alone: no promise rests on it.
pub mod Blocks
pub mod ExactRuns
pub mod Marked
pub mod Submitting
pub mod Tracing
