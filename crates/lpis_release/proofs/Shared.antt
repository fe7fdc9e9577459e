-- The lemmas that the crates above cite, passed on from one place. Declares nothing.
pub use Rattle.lpis_release.proofs.WeightedLemmas.{item-within}
pub use Rattle.lpis_release.proofs.EqualityLemmas.{same_class-tells}
