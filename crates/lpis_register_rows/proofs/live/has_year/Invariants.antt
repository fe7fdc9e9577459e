use Rattle.std.proofs.Common.{map, pos, take, Contains}
use Rattle.lpis_register_rows.proofs.live.has_year.Given as goal

abbrev pub invariant-loop-year : goal.invariant-loop-year
invariant-loop-year l = Contains (map (λ y. pos y) (take l.year-index l.years)) l.span.since → ⊥
