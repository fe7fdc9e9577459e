-- The lemmas that the crates above cite, passed on from one place. Declares nothing.
pub use Rattle.lpis_register_sql.proofs.MakingLemmas.{undone_stops}
pub use Rattle.lpis_register_sql.proofs.SchemaLemmas.{one_of_trees}
pub use Rattle.lpis_register_sql.proofs.SeeingLemmas.{stays, stays_then}
pub use Rattle.lpis_register_sql.proofs.QuietLemmas.{answered, err_on, leaves_all, left_on, nothing_yet, settled_then, then, then_fails}
pub use Rattle.lpis_register_sql.proofs.StepLemmas.{IsCommitted, begun_over, dropped_settled, quiet_none, quiet_on, ran_open, undone_settled}
pub use Rattle.lpis_register_sql.proofs.StopLemmas.{failing, more_faults, unchanged}
pub use Rattle.lpis_register_sql.proofs.UnreadLemmas.{unread_before, unread_still}
