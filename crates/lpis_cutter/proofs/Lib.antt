pub mod Common
pub mod UnsoundLemmas
pub mod PieceLemmas
pub mod StandingLemmas
pub mod UnevenLemmas
