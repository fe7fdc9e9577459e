use Rattle.std.proofs.Common.{sym, subst, List, ℕ, take, ◌+◌}
use Rattle.lpis_lineage.proofs.Common.{named_successors, IsTally}
use Rattle.lpis_lineage.specs.declared.tally.Tally.{Tally}
use Rattle.lpis_lineage.proofs.TallyLemmas.{named_successors-some, named_successors-none}
use Rattle.lpis_lineage.proofs.tally.tally_successors.Goals.{in-None, in-Some+in_ok-note-in-Some}
use Rattle.lpis_lineage.proofs.tally.tally_successors.Goals as goal

pub loop-row-preserved : goal.loop-row-preserved
loop-row-preserved c =
    let i = c.loop-row.row-index in
    let rows = c.args.rows.now in
    let T : Tally → Type 0 = λ t. IsTally t (named_successors (take (i + 1) rows)) in
    elim c.match-row.branch [
      | in-None w ↦ subst T (sym w.tally-is) (let P : List (List ℕ) → Type 0 = λ l. IsTally c.loop-row.tally l in
          subst P (named_successors-none rows i c.row-item.result c.loop-row-test.true c.row-item.is w.in-None.is)
          c.loop-row.invariant)
      | in-Some+in_ok-note-in-Some w ↦ subst T (sym w.tally-is) (let P : List (List ℕ) → Type 0 =
          λ l. IsTally w.note.new.self l in
          subst P (named_successors-some rows i c.row-item.result w.in-Some.successor c.loop-row-test.true c.row-item.is w.in-Some.is)
          (w.in_ok-note-in-Some.ensures (named_successors (take i rows)) c.loop-row.invariant))
    ]
