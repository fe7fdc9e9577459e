use Rattle.std.proofs.Common.{◌∙◌, sym}
use Rattle.lpis_lineage.proofs.FateLemmas.{kind-counted}
use Rattle.lpis_lineage.proofs.fates.kind_of.Goals as goal

pub returns : goal.returns
returns c = λ last rows are was. kind-counted last c.args.live.now rows c.args.id.now c.contains-several.result c.contains-shared.result c.counted.result
    was (sym c.contains.ensures ∙ c.if-contains.false) (sym (are.ended_are c.args.id.now) ∙ sym c.contains-2.ensures ∙ c.if-contains-2.false)
    (c.contains-several.ensures ∙ are.olds_are.twice_are c.args.id.now) (c.contains-shared.ensures ∙ are.shared_are c.args.id.now) c.counted.ensures
