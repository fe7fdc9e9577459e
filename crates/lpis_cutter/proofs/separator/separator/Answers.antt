use Rattle.std.proofs.Common.{◌≡◌, ◌<◌, ◌≤◌, ◌-◌, ℕ, Bool, true, false, arith, cond, nat_lt, refl}
use Rattle.std.proofs.lemmas.Bool.Decides.{nat_tests}
use Rattle.lpis_points.specs.declared.triangle.Triangle.{Triangle}
use Rattle.lpis_checker.specs.GoodCertificate.{EdgeSeparates, LineSeparates}
use Rattle.lpis_cutter.proofs.separator.separator.Goals as goal

-- where no edge of the first keeps two triangles apart, and none of the second, none does
no_edge : (s t : Triangle) → ((k : ℕ) → k ≤ 2 → EdgeSeparates k s t → ⊥) → ((k : ℕ) → k ≤ 2 → EdgeSeparates k t s → ⊥) → (k : ℕ) → k ≤ 5 → LineSeparates k s t → ⊥
no_edge s t f g k few h = by (nat_lt k 3) refl h
  where
    by : (b : Bool) → nat_lt k 3 ≡ b → cond b (EdgeSeparates k s t) (EdgeSeparates (k - 3) t s) → ⊥
    by true e h = let lt : k < 3 = grind (arith, nat_tests) in f k (omega arith) h
    by false e h = g (k - 3) (omega arith) h

pub returns-in-None-edge_between-clause-none : goal.returns-in-None-edge_between-clause-none
returns-in-None-edge_between-clause-none c = no_edge c.args.s.now c.args.t.now c.in-None.ensures.none c.in-None-edge_between.ensures.none
