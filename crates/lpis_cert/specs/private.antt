-- Machinery, cited by private contracts alone: no promise rests on it.
pub mod Drafts
pub mod Fits
pub mod Margins
pub mod Taken
pub mod Written
