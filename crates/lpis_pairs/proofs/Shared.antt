-- The lemmas that the crates above cite, passed on from one place. Declares nothing.
pub use Rattle.lpis_pairs.proofs.CountLemmas.{as_many_are_all}
