pub mod AskedLemmas
pub mod CommandLineLemmas
pub mod RequestLemmas
