pub mod ReadingLemmas
pub mod NumberLemmas
pub mod WordLemmas
pub mod SpellingLemmas
