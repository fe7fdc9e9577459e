-- The names that most proofs of this crate cite, passed on from one place. Declares nothing.
pub use Rattle.lpis_run.specs.CheckAnswer.{Answer}
pub use Rattle.lpis_run_publish.specs.LineageLines.{lineage_line}
pub use Rattle.lpis_lineage.specs.Changes.{kind_at}
pub use Rattle.std.proofs.lemmas.Result.{IfOk-weaker}
pub use Rattle.std.specs.Io.KnownBytes.{Appends}
