use Rattle.std.proofs.Common.{◌≡◌, ◌≤◌, List, map, take, length, pos}
use Rattle.lpis_register_rows.proofs.Common.{years_of, Entry, HasKnownHistory, SetsAre, known_of, span_in}
use Rattle.lpis_register_rows.specs.private.Fronts.{IsFront}
use Rattle.lpis_register_rows.proofs.building.build.Given as goal

abbrev pub invariant-loop-year : goal.invariant-loop-year
invariant-loop-year l = (years_of l.history ≡ map (λ y. pos y) (take l.year-index l.years))
    × SetsAre (map span_in l.spans) l.history × (known_of l.history ≡ take l.next l.lines)
    × (l.next ≤ length l.lines)
    × ((h : List Entry) → HasKnownHistory l.spans l.lines h → years_of h ≡ map (λ y. pos y) l.years → IsFront l.history h)
