use Rattle.std.proofs.Common.{◌+◌, ◌≤◌, length}
use Rattle.std.specs.Prelude.{sum_by}
use Rattle.lpis_cutter.proofs.parts.parcel_parts.Given as goal

abbrev pub invariant-loop-own : goal.invariant-loop-own
invariant-loop-own l = sum_by (λ p. length p.flats) l.parts.items + length l.flats.items ≤ length l.fn.flats.items
