use Rattle.std.proofs.Common.{◌∙◌, ap, refl, not, cond, true, Bool, ◌&&◌}
use Rattle.lpis_lineage.proofs.Common.{has_id, same_id}
use Rattle.lpis_lineage.specs.Changes.{kind_at}
use Rattle.lpis_lineage.proofs.MarkLemmas.{marks-none, marks-some}
use Rattle.lpis_lineage.proofs.marks.note_row.Goals as goal

pub returns-in-None : goal.returns-in-None
returns-in-None c = λ before are. marks-none (kind_at c.args.change.now) c.args.marks.now _ before c.args.row.now are c.in-None.is c.in_ok-add_if.ensures refl

pub returns-in_ok-add_if-in-Some : goal.returns-in_ok-add_if-in-Some
returns-in_ok-add_if-in-Some c = λ before are.
    marks-some (kind_at c.args.change.now) c.args.marks.now _ before c.args.row.now c.in-Some.successor are c.in-Some.is c.in_ok-add_if.ensures
    (λ s. c.in_ok-add_if-in-Some.ensures s ∙ ap (λ (b : Bool). cond (not b && same_id c.in-Some.successor s) true (has_id c.args.marks.now.unmerged s)) c.merges-spoils.ensures)
