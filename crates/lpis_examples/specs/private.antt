-- Machinery, cited by private contracts alone: no promise rests on it.
pub mod Small
