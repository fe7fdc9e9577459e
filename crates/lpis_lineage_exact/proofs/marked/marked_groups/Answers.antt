use Rattle.std.proofs.Common.{◌∙◌, List, ap, subst, sym}
use Rattle.std.specs.List.{list_any}
use Rattle.lpis_lineage.specs.Changes.{kind_at}
use Rattle.lpis_lineage.specs.ExactGroups.{AreExactGroups}
use Rattle.lpis_lineage.specs.declared.exact.Group.{Group}
use Rattle.lpis_lineage.specs.declared.row.Row.{Row}
use Rattle.lpis_lineage_exact.proofs.MarkedLemmas.{no-groups}
use Rattle.lpis_lineage_exact.proofs.marked.marked_groups.Goals as goal

pub returns-then-not-has_marks : goal.returns-then-not-has_marks
returns-then-not-has_marks c = λ last live change.
    let none = ap (λ (rows : List Row). list_any (λ (r : Row). r.exact) rows) (sym c.rows.ensures) ∙ sym c.has_marks.ensures ∙ c.if-not-has_marks.true in
    subst (λ (gs : List Group). AreExactGroups (kind_at c.args.change.now) c.args.change.now.rows gs) (sym c.new.ensures.items) (no-groups last live c.args.change.now change none)
