use Rattle.std.proofs.Common.{◌≡◌, ◌∙◌, sym, subst, List, ℕ, Option}
use Rattle.lpis_lineage.proofs.Common.{Row, kind, marked_row_faults}
use Rattle.lpis_lineage.specs.declared.kind.Kind.{Kind}
use Rattle.lpis_lineage.specs.Changes.{kind_at}
use Rattle.lpis_lineage.specs.Faults.{ReportsFirstOf}
use Rattle.lpis_lineage.proofs.CleanLemmas.{unmarked-clean}
use Rattle.lpis_lineage.proofs.marks.check_marks_of.Goals as goal

pub returns-then-not-has_marks : goal.returns-then-not-has_marks
returns-then-not-has_marks c = unmarked-clean (kind c.args.last.now c.args.live.now c.args.rows.now) c.args.rows.now (sym c.has_marks.ensures ∙ c.if-not-has_marks.true)

pub returns : goal.returns
returns c =
    let K = kind c.args.last.now c.args.live.now c.args.rows.now in
    let h = c.in_ok-change.change in
    let is = c.in_ok-change.ensures in
    let r = c.check_marks.result in
    let same : kind_at h ≡ K = λ i id. is.kinds_are id i in
    subst (λ (rs : List Row). ReportsFirstOf (marked_row_faults K rs 1 rs) r) is.rows_are
    (subst (λ (kind_of : List ℕ → Option Kind). ReportsFirstOf (marked_row_faults kind_of h.rows 1 h.rows) r) same c.check_marks.ensures)
