pub mod BegunLemmas
pub mod JoiningLemmas
pub mod PassedLemmas
pub mod PlaceLemmas
pub mod RunLemmas
pub mod TotalsLemmas
pub mod Shared
