use Rattle.std.proofs.Common.{◌≡◌, ◌↔◌, drop}
use Rattle.std.specs.Slice.Iter.{iter_rest}
use Rattle.lpis_register.specs.private.Alike.{AreAlike}
use Rattle.lpis_register.proofs.comparing.are_same_entries.Given as goal

abbrev pub invariant-loop-entry : goal.invariant-loop-entry
invariant-loop-entry l =
    ((l.a ≡ l.b) ↔ (drop l.entry-index l.a ≡ iter_rest l.rest))
    × (AreAlike l.a l.b → AreAlike (drop l.entry-index l.a) (iter_rest l.rest))
