-- What a tracing has of an identifier that some release holds is its trace.
use Rattle.std.proofs.Common.{◌≡◌, true, ℕ, List}
use Rattle.lpis_lineage.specs.declared.row.Entry.{Entry}
use Rattle.lpis_lineage.specs.Lineage.{holds}
use Rattle.lpis_register.specs.HistoryAnswers.{IsTrace}
use Rattle.lpis_lineage.specs.Tracings.{AreDescendants}

-- the live descendants of an identifier that some release holds are its trace
pub found_is_trace : (h : List Entry) (id : List ℕ) (found list : List (List ℕ)) → (i : ℕ) × (holds h i id ≡ true) → found ≡ list → AreDescendants h list id → IsTrace h id found
found_is_trace h id found list known e d = rw e (record { known = known; members = d.members; ascend = d.ascend })
