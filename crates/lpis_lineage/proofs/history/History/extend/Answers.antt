use Rattle.std.proofs.Common.{◌≡◌, sym, subst, subst₂, ℕ, List}
use Rattle.lpis_lineage.proofs.Common.{Row}
use Rattle.lpis_lineage.specs.private.Keeping.{IsNext}
use Rattle.lpis_lineage.proofs.StepLemmas.{step-next}
use Rattle.lpis_lineage.proofs.history.History.extend.Goals as goal

pub put-requires-clause-next : goal.put-requires-clause-next
put-requires-clause-next c =
    let made = c.requires.made in
    let next = step-next c.args.self.now made.0 made.1 c.args.live c.args.change.now c.args.fresh.now made.2 in
    let with_rows = subst₂ (λ (rs : List Row) (gone : List (List ℕ)). IsNext c.args.self.now c.args.live rs gone c.args.fresh.now) (sym c.rows.ensures) (sym c.dropped.ensures.list) next in
    subst (λ (fresh : List (List ℕ)). IsNext c.args.self.now c.args.live c.rows.result.now c.dropped.result.now fresh) (sym c.in_ok-fresh.ensures) with_rows
