use Rattle.std.proofs.Common.{◌∙◌}
use Rattle.lpis_lineage.specs.Changes.{kind_at}
use Rattle.lpis_lineage.proofs.MarkLemmas.{exact-merge}
use Rattle.lpis_lineage.proofs.marks.merges_exactly.Goals as goal

pub returns : goal.returns
returns c = λ rows are there. exact-merge (kind_at c.args.change.now) rows c.args.successor.now c.contains.result there (c.contains.ensures ∙ are.unmerged_are c.args.successor.now)
