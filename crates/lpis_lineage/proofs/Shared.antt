-- The lemmas that the crates above cite, passed on from one place. Declares nothing.
pub use Rattle.lpis_lineage.proofs.AcceptingLemmas.{never-follows}
pub use Rattle.lpis_lineage.proofs.CleanLemmas.{follows-from-clean, held-some, mono}
pub use Rattle.lpis_lineage.proofs.ExtensionLemmas.{longer, before-at-after}
pub use Rattle.lpis_lineage.proofs.IdentifierLemmas.{entry-after, entry-before, entry-here, in-history, same-by_order, same-exact, same-refl, same-sym}
pub use Rattle.lpis_lineage.proofs.RowCountLemmas.{counted-ended, filter-none, filter-some}
pub use Rattle.lpis_lineage.proofs.SeenLemmas.{any-push, or-cond}
pub use Rattle.lpis_lineage.proofs.SpanLemmas.{above-zero, first-index, span-tells}
pub use Rattle.lpis_lineage.proofs.TellingLemmas.{take-at}
