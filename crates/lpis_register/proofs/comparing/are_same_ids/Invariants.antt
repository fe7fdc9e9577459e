use Rattle.std.proofs.Common.{◌≡◌, ◌↔◌}
use Rattle.lpis_register.proofs.comparing.are_same_ids.Given as goal

abbrev pub invariant-loop-id : goal.invariant-loop-id
invariant-loop-id l = (l.a ≡ l.b) ↔ (l.id-iterator ≡ l.rest)
