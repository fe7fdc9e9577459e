use Rattle.std.proofs.Common.{◌∙◌}
use Rattle.lpis_lineage.proofs.TellingLemmas.{row-then, row-else}
use Rattle.lpis_lineage.proofs.seen.Seen.has_row.Goals as goal

pub returns-then-contains : goal.returns-then-contains
returns-then-contains c = λ rows seen. row-then rows c.args.id.now c.contains.result (c.contains.ensures ∙ seen.ended_are c.args.id.now) c.if-contains.true

pub returns-else-contains : goal.returns-else-contains
returns-else-contains c = λ rows seen. row-else rows c.args.id.now c.contains.result c.contains-else-contains.result
    (c.contains.ensures ∙ seen.ended_are c.args.id.now) c.if-contains.false (c.contains-else-contains.ensures
    ∙ seen.continued_are c.args.id.now)
