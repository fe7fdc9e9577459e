use Rattle.std.proofs.Common.{◌∙◌, sym}
use Rattle.lpis_lineage.proofs.Common.{named_successors}
use Rattle.lpis_lineage.proofs.FateLemmas.{last-part, shared-test}
use Rattle.lpis_lineage.proofs.fates.shares.Goals as goal

pub returns-then-was : goal.returns-then-was
returns-then-was c = λ all tally there.
    last-part _ _ _ _ (sym (tally.twice_are c.args.successor.now) ∙ sym c.contains-twice.ensures ∙ c.if-twice.false) (sym c.contains-was.ensures ∙ c.if-was.true) c.contains-is.ensures
    ∙ shared-test (named_successors all) c.args.successor.now _ there
