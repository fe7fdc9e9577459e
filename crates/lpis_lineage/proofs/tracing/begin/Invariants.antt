use Rattle.std.proofs.Common.{◌≡◌, ℕ, List}
use Rattle.lpis_lineage.proofs.Common.{get, same_id}
use Rattle.lpis_lineage.specs.private.Following.{has_asker}
use Rattle.lpis_lineage.proofs.AskerLemmas.{is_asked}
use Rattle.lpis_lineage.proofs.tracing.begin.Given as goal

abbrev pub invariant-loop-place : goal.invariant-loop-place
invariant-loop-place l = (q : List ℕ) (j : ℕ) → has_asker j (get same_id l.reached q) ≡ is_asked l.asked l.place q j
