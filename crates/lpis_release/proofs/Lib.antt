pub mod GroupLemmas
pub mod Common
pub mod JoinLemmas
pub mod IndexLemmas
pub mod WeightedLemmas
mod NamingLemmas
pub mod EqualityLemmas
pub mod Shared
