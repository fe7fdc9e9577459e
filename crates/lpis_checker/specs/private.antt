-- Machinery, cited by private contracts alone: no promise rests on it.
pub mod ExactSearches
pub mod Searches
pub mod Naming
