-- The lemmas that the crates above cite, passed on from one place. Declares nothing.
pub use Rattle.lpis_checker.proofs.ExactLemmas.{shown_turns}
pub use Rattle.lpis_checker.proofs.FaultLemmas.{one_fault}
