-- The lemmas that the crates above cite, passed on from one place. Declares nothing.
pub use Rattle.lpis_cert.proofs.LawLemmas.{no_fault, one_cert}
