-- The lemmas that the crates above cite, passed on from one place. Declares nothing.
pub use Rattle.lpis_register_rows.proofs.TakingLemmas.{all_read, one_read}
