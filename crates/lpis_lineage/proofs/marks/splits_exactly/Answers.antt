use Rattle.std.proofs.Common.{◌∙◌, sym}
use Rattle.lpis_lineage.specs.Changes.{kind_at}
use Rattle.lpis_lineage.proofs.MarkLemmas.{exact-split}
use Rattle.lpis_lineage.proofs.marks.splits_exactly.Goals as goal

pub returns-then-was_split : goal.returns-then-was_split
returns-then-was_split c = λ rows are. exact-split (kind_at c.args.change.now) rows c.args.id.now c.contains.result
    (sym c.was_split.ensures ∙ c.if-was_split.true) (c.contains.ensures ∙ are.unsplit_are c.args.id.now)
