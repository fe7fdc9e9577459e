use Rattle.std.proofs.Common.{◌≡◌, ◌∙◌, sym, ap, subst, List, ℕ, [], ◌⊎◌, Some}
use Rattle.lpis_lineage.proofs.Common.{last_live, LineageFault, lineage_row_faults, dropped_faults, used_faults, first}
use Rattle.lpis_lineage.specs.declared.fault.LineageFault.TheVariants.{Memory}
use Rattle.std.proofs.lemmas.Result.{err_from_is_err_and}
use Rattle.lpis_lineage.proofs.TellingLemmas.{used-faults-left, stops-after, rows-live, dropped-live}
use Rattle.lpis_lineage.proofs.acceptance.first_fault.Goals as goal

pub returns-in_err-check_dropped-clause-tells : goal.returns-in_err-check_dropped-clause-tells
returns-in_err-check_dropped-clause-tells c =
    let h = c.args.history.now in
    let live = c.args.live.now in
    let rows = c.args.rows.now in
    let last = c.last_live-last.ensures in
    let no-rows : lineage_row_faults (last_live h) live [] 1 rows ≡ [] = sym (rows-live (last_live h) c.in_ok-set.set live [] 1 rows c.in_ok-set.ensures) ∙ (rw last at c.in_ok-seen.ensures.tells) in
    let alike : dropped_faults c.in_ok-set.set rows c.last_live-last.result.now ≡ dropped_faults live rows
    (last_live h) = ap (λ (l : List (List ℕ)). dropped_faults c.in_ok-set.set rows l) last
    ∙ dropped-live c.in_ok-set.set live rows (last_live h) c.in_ok-set.ensures in
    let P : List LineageFault → Type 0 = λ l. (c.in_err-check_dropped.field-0.0 ≡ Memory) ⊎ (first l ≡ Some c.in_err-check_dropped.field-0.0) in
    let p = err_from_is_err_and c.from_residual-in_err-check_dropped.result
    c.from_residual-in_err-check_dropped.ensures.1 in
    rw (p.1, p.2) (stops-after _ _ (used_faults h (last_live h) live) _ no-rows
    (subst P alike (c.in_err-check_dropped.ensures rows c.in_ok-seen.ensures.seen)))

pub returns-in_err-check_used-clause-tells : goal.returns-in_err-check_used-clause-tells
returns-in_err-check_used-clause-tells c =
    let h = c.args.history.now in
    let last = c.last_live-last.ensures in
    let clean = used-faults-left h c.in_ok-set.set c.args.live.now c.args.rows.now c.in_ok-set.ensures
    (rw last at c.in_ok-seen.ensures.tells) (rw last at c.in_ok-check_dropped.ensures c.args.rows.now
    c.in_ok-seen.ensures.seen) in
    let P : List LineageFault → Type 0 = λ l. (c.in_err-check_used.field-0.0 ≡ Memory) ⊎ (first l ≡ Some c.in_err-check_used.field-0.0) in
    let p = err_from_is_err_and c.from_residual-in_err-check_used.result c.from_residual-in_err-check_used.ensures.1 in rw (p.1, p.2) (subst P (sym clean) c.in_err-check_used.ensures)

pub returns-clause-tells : goal.returns-clause-tells
returns-clause-tells c =
    let h = c.args.history.now in
    let last = c.last_live-last.ensures in
    used-faults-left h c.in_ok-set.set c.args.live.now c.args.rows.now c.in_ok-set.ensures (rw last at c.in_ok-seen.ensures.tells)
    (rw last at c.in_ok-check_dropped.ensures c.args.rows.now c.in_ok-seen.ensures.seen)
    ∙ c.in_ok-check_used.ensures
