use Rattle.std.proofs.Common.{◌≡◌, ◌≤◌, ◌+◌, ◌-◌, ◌++◌, ℕ, take, length, pos}
use Rattle.lpis_register_rows.proofs.Common.{known_from}
use Rattle.lpis_register_rows.specs.private.Fronts.{IsRun}
use Rattle.lpis_register_rows.proofs.opening.rows_of_year.Given as goal

abbrev pub invariant-lines : goal.invariant-lines
invariant-lines l = (take l.next l.lines ≡ take l.from l.lines ++ known_from (pos l.year) 0 l.rows.items) × (l.next ≤ length l.lines)
    × (l.next ≡ l.from + length l.rows.items) × ((stop : ℕ) → IsRun l.lines l.from l.year stop → l.next ≤ stop)

abbrev pub decreases-lines : goal.decreases-lines
decreases-lines l = length l.lines - l.next
