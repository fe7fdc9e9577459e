-- The lemmas that the crates above cite, passed on from one place. Declares nothing.
pub use Rattle.csv.proofs.WriteFacts.{appends-more}
pub use Rattle.lpis_run.proofs.CheckLemmas.{IsReport, answer-of-proved, answer-of-taken, answer-of-text, answer-said, cert-more, input-more}
pub use Rattle.lpis_run.proofs.CheckLemmas.{input-status, used-is-no-yes, used-more}
pub use Rattle.lpis_run.proofs.CheckLemmas.{refused-as, refused-more, stopped-in-region, table-more, table-status}
pub use Rattle.lpis_run.proofs.FolderLemmas.{behind_unread, behind_untouched, cert_last, unread_first, untouched_first, untouched_same}
pub use Rattle.lpis_run.proofs.ReportLemmas.{flat_map-push, text-goes-on}
pub use Rattle.lpis_run.proofs.RunLemmas.{both_stopped, both_written, breaks_off_more, runs_on_more, runs_on_stopped, runs_on_written, runs_stopped, runs_written}
pub use Rattle.lpis_run.proofs.RunLemmas.{NamesNone, memory_names_none, runs_on_unnamed, some_unread, untouched_unnamed, write_names_none}
