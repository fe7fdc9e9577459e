-- Machinery, cited by private contracts alone: no promise rests on it.
pub mod Lines
pub mod LocateRuns
pub mod Found
pub mod Searching
