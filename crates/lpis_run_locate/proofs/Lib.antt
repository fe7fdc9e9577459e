pub mod LineLemmas
pub mod FaultLemmas
pub mod FoundLemmas
pub mod PassingLemmas
pub mod CountryLemmas
pub mod ReaderLemmas
