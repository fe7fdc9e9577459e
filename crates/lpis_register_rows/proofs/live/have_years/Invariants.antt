use Rattle.std.proofs.Common.{map, pos, take, All, Contains}
use Rattle.lpis_register_rows.proofs.live.have_years.Given as goal

abbrev pub invariant-loop-span : goal.invariant-loop-span
invariant-loop-span l = All (λ s. Contains (map (λ y. pos y) l.years) s.since) (take l.span-index l.spans)
