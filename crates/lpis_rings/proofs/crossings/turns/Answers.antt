use Rattle.std.proofs.Common.{◌≡◌, ℕ, suc, ◌+◌, ◌≤◌, ℤ, ◌+ℤ◌, nat_abs, List, length, ap, arith, to_z, of_z, w8, w64}
use Rattle.lpis_rings.proofs.Common.{ints, Point, edge_turns, most_points}
use Rattle.lpis_points.specs.RatPoints.{rational_of}
use Rattle.lpis_points.proofs.Shared.{crossing-small}
use Rattle.lpis_rings.proofs.crossings.turns.Goals as goal

-- one more edge, as the code's numbers have it
next_sum : (sum r c x left next all : ℤ) (n m : ℕ) → r ≡ to_z w8 (of_z w8 c) → c ≡ x → nat_abs x ≤ 1 → sum +ℤ left ≡ all
    → left ≡ x +ℤ next → nat_abs sum + n ≤ most_points → n ≡ suc m
    → (to_z w64 (of_z w64 (sum +ℤ to_z w64 (of_z w64 r))) +ℤ next ≡ all)
    × (nat_abs (to_z w64 (of_z w64 (sum +ℤ to_z w64 (of_z w64 r)))) + m ≤ most_points)
next_sum sum r c x left next all n m e f h k l few g = omega (arith, ints)

pub loop-a-preserved : goal.loop-a-preserved
loop-a-preserved c =
    let p = rational_of c.args.p.now in
    let i = c.loop-a.invariant in
    let s = c.in-Some.ensures.steps in
    let r = next_sum _ _ _ _ _ _ _ _ _ c.from-sum.ensures c.crossing.ensures (crossing-small c.in-Some.a c.in-Some.b p)
    i.sum (ap (λ (es : List (Point × Point)). edge_turns es p) s) i.few
    (ap (λ (es : List (Point × Point)). length es) s) in
    record { can = i.can; ends = i.ends; sum = r.0; few = r.1 }
