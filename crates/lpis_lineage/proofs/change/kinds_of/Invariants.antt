use Rattle.std.proofs.Common.{◌≡◌, ℕ, List, true, cond}
use Rattle.lpis_lineage.proofs.Common.{get, has_id, same_id, Row, AreFates, kind}
use Rattle.lpis_lineage.proofs.change.kinds_of.Given as goal

abbrev pub invariant-loop-id : goal.invariant-loop-id
invariant-loop-id l = record {
  among : (q : List ℕ) → has_id l.id-iterator q ≡ true → has_id l.last q ≡ true;
  known : (rows : List Row) → AreFates l.last l.live rows l.fates rows → (q : List ℕ) → cond (has_id l.id-iterator q) (kind l.last l.live rows q) (get same_id l.kinds q) ≡ kind l.last l.live rows q;
}
