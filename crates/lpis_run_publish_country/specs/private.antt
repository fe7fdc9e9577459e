-- Machinery, cited by private contracts alone: no promise rests on it.
pub mod Preparing
pub mod Unprepared
pub mod Deciding
pub mod Filling
