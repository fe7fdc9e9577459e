use Rattle.std.proofs.Common.{◌≡◌, ◌≤◌, map, take, pos, All}
use Rattle.lpis_register_rows.proofs.Common.{last_of_years}
use Rattle.lpis_register_rows.proofs.known.known_years.Given as goal

abbrev pub invariant-loop-year : goal.invariant-loop-year
invariant-loop-year l = (map (λ y. pos y) l.known.items ≡ take l.year-index l.years) × All (λ y. y ≤ last_of_years) l.known.items
