-- The weighted area of pieces lies between 0 and their area times 100.
use Rattle.std.proofs.Common.{◌≤◌, ◌*◌, ℕ, ℤ, pos, negsuc, ◌+ℤ◌, ◌*ℤ◌, ◌≤ℤ◌, ◌<ℤ◌, List, [], ◌∷◌, Option, Some, None, All, option_map, unwrap_or, arith, mul-le-mul}
use Rattle.lpis_checker.proofs.Common.{Piece}
use Rattle.std.proofs.lemmas.Int.{ints}
use Rattle.std.proofs.lemmas.List.Elements.{All-head, All-tail}
use Rattle.lpis_points.specs.Sums.{int_sum_by}
use Rattle.lpis_tables.specs.declared.class.Class.{Class}
use Rattle.lpis_tables.specs.Percentages.{most_percent}
use Rattle.lpis_rings.specs.Area.{area2}
use Rattle.lpis_release.specs.Weighted.{areas2, class_named, piece_weight}

abbrev HasArea : Piece → Type 0
HasArea x = pos 0 <ℤ area2 x.polygon

-- the percentage of a class, 0 without one
abbrev class_percent : Option Class → ℕ
class_percent o = unwrap_or (option_map (λ (k : Class). k.percent) o) 0

few-percent : (o : Option Class) → class_percent o ≤ most_percent
few-percent None = omega arith
few-percent (Some k) = k.within

between : (u v : ℕ) → u ≤ v → (pos 0 ≤ℤ pos u) × (pos u ≤ℤ pos v)
between u v h = (omega (arith, ints), omega (arith, ints))

share : (p : ℕ) (a : ℤ) → p ≤ most_percent → pos 0 <ℤ a → (pos 0 ≤ℤ (pos p *ℤ a)) × ((pos p *ℤ a) ≤ℤ (pos most_percent *ℤ a))
share p (pos n) h k = let same : n ≤ n = omega arith in between (p * n) (most_percent * n) (mul-le-mul h same)
share p (negsuc n) h k = absurd (omega (arith, ints))

added : (w ws a rest : ℤ) → (pos 0 ≤ℤ w) × (w ≤ℤ (pos most_percent *ℤ a)) → (pos 0 ≤ℤ ws) × (ws ≤ℤ (pos most_percent *ℤ rest))
    → (pos 0 ≤ℤ (w +ℤ ws)) × ((w +ℤ ws) ≤ℤ (pos most_percent *ℤ (a +ℤ rest)))
added w ws a rest h k = (omega (arith, ints, h.0, k.0), omega (arith, ints, h.1, k.1))

-- the weighted area of pieces with areas above 0 lies between 0 and their area times the greatest percentage
pub weights-between : (classes : List Class) (xs : List Piece) → All HasArea xs
    → (pos 0 ≤ℤ int_sum_by (piece_weight classes) xs) × (int_sum_by (piece_weight classes) xs ≤ℤ (pos most_percent *ℤ areas2 xs))
weights-between classes [] h = (omega (arith, ints), omega (arith, ints))
weights-between classes (x ∷ xs) h =
    added (piece_weight classes x) (int_sum_by (piece_weight classes) xs) (area2 x.polygon) (areas2 xs)
    (share (class_percent (class_named classes x.class)) (area2 x.polygon) (few-percent (class_named classes x.class)) (All-head HasArea x xs h))
    (weights-between classes xs (All-tail HasArea x xs h))
