use Rattle.std.proofs.Common.{◌∙◌, refl, ap, ℕ, List, Some, cond, bit_or}
use Rattle.lpis_lineage.proofs.Common.{get, same_id}
use Rattle.lpis_lineage.proofs.AskerLemmas.{joined, nothing-new}
use Rattle.lpis_lineage.proofs.tracing.add_askers.Goals as goal

pub returns-in_ok-insert : goal.returns-in_ok-insert
returns-in_ok-insert c =
    let known = c.askers_of-known.result in
    joined (get same_id c.args.reached.now) (get same_id c.insert.new.self) c.args.id.now known (bit_or known c.args.coming) c.args.coming c.askers_of-known.ensures refl
    (λ q. c.in_ok-insert.ensures.updates.0 q ∙ ap (λ (z : List ℕ). cond (same_id z q) (Some (bit_or known c.args.coming)) (get same_id c.args.reached.now q)) c.in_ok-id.ensures)

pub returns-else-all-known : goal.returns-else-all-known
returns-else-all-known c =
    let known = c.askers_of-known.result in
    nothing-new (get same_id c.args.reached.now) c.args.id.now known (bit_or known c.args.coming) c.args.coming c.askers_of-known.ensures refl c.if-all-known.false
