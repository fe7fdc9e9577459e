-- The lemmas that the crates above cite, passed on from one place. Declares nothing.
pub use Rattle.lpis_run_publish.proofs.LeavingLemmas.{leaves_untouched, stays_as, stays_untouched}
