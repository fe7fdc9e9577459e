-- Machinery, cited by private contracts alone: no promise rests on it.
pub mod Fates
pub mod Following
pub mod Gathered
pub mod Follows
pub mod Keeping
pub mod Marks
pub mod Seen
pub mod Tally
