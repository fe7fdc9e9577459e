pub mod NameLemmas
pub mod LineageLemmas
pub mod ShapeLemmas
pub mod MarkedLemmas
pub mod AskingLemmas
pub mod ShownLemmas
