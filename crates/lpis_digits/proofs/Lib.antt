pub mod ByteLemmas
pub mod LaneLemmas
pub mod WordLemmas
pub mod SpellingLemmas
pub mod RunLemmas
pub mod PairLemmas
pub mod Shared
