-- What the proofs of the crates above cite, passed on from one place. Declares nothing.
pub use Rattle.lpis_digits.proofs.SpellingLemmas.{value_behind}
