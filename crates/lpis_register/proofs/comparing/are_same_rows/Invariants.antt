use Rattle.std.proofs.Common.{◌≡◌, ◌↔◌, drop}
use Rattle.std.specs.Slice.Iter.{iter_rest}
use Rattle.lpis_register.proofs.comparing.are_same_rows.Given as goal

abbrev pub invariant-loop-row : goal.invariant-loop-row
invariant-loop-row l = (l.a ≡ l.b) ↔ (drop l.row-index l.a ≡ iter_rest l.rest)
