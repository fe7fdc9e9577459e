-- Machinery: areas fit their types.
use Rattle.std.proofs.Common.{◌≡◌, ◌≤◌, ◌<◌, ◌+◌, ◌-◌, ◌*◌, ℕ, zero, suc, ℤ, pos, ◌-ℤ◌, ◌+ℤ◌, nat_abs, List, [], ◌∷◌, length, take, drop, get_or, arith, refl, sym, ap, subst, ◌∙◌, FitsSigned}
use Rattle.lpis_rings.proofs.Common.{ints, w128, Point, edge_sum, shoelace_term, shoelace, steps, member_points, points_in, points_of, Member, most_points, most_term}
use Rattle.std.proofs.lemmas.List.{length-drop}
use Rattle.std.proofs.lemmas.List.Sums.{sum_by_more, sum_by_more_le}
use Rattle.std.proofs.lemmas.Int.{to_z-of_z}
use mir.Syntax.{w64}
use mir.Val.{SFits, to_z, of_z}
use Rattle.lpis_points.specs.Range.{IsInRange}
use Rattle.lpis_rings.specs.private.Margins.{ring_product_margin}

-- a coordinate as a machine number of 128 bits
pub coordinate-is : (x : ℤ) → IsInRange x → to_z w128 (of_z w128 (to_z w64 (of_z w64 x))) ≡ x
coordinate-is x h =
    let f : SFits w64 x = omega (arith, ints) in
    let g : SFits w128 x = omega (arith, ints) in
    ap (λ (y : ℤ). to_z w128 (of_z w128 y)) (to_z-of_z w64 x f) ∙ to_z-of_z w128 x g

-- two numbers no larger than a product of coordinates have a difference that fits 128 bits
pub term-fits : (p q : ℤ) → nat_abs p ≤ ring_product_margin → nat_abs q ≤ ring_product_margin → FitsSigned w128 (to_z w128 (of_z w128 p) -ℤ to_z w128 (of_z w128 q))
term-fits p q h k =
    let f : SFits w128 p = omega (arith, ints) in
    let g : SFits w128 q = omega (arith, ints) in
    let e = to_z-of_z w128 p f in
    let d = to_z-of_z w128 q g in
    rw (e, d) (omega (arith, ints))

-- in 128 bits, numbers no larger than a product of coordinates have their exact difference, at most the greatest term
pub term-is : (p q : ℤ) → nat_abs p ≤ ring_product_margin → nat_abs q ≤ ring_product_margin
    → (to_z w128 (of_z w128 (to_z w128 (of_z w128 p) -ℤ to_z w128 (of_z w128 q))) ≡ p -ℤ q) × (nat_abs (p -ℤ q) ≤ most_term)
term-is p q h k =
    let f : SFits w128 p = omega (arith, ints) in
    let g : SFits w128 q = omega (arith, ints) in
    let e = to_z-of_z w128 p f in
    let d = to_z-of_z w128 q g in
    let s : SFits w128 (p -ℤ q) = omega (arith, ints) in
    (rw (e, d) (to_z-of_z w128 (p -ℤ q) s), omega (arith, ints))

-- one more number in a sum of numbers, each at most the greatest term
pub sum-more : (s t : ℤ) (n k : ℕ) → nat_abs s ≤ most_term * n → nat_abs t ≤ most_term * k → n + k ≤ most_points
    → SFits w128 (s +ℤ to_z w128 (of_z w128 t)) × (to_z w128 (of_z w128 (s +ℤ to_z w128 (of_z w128 t))) ≡ s +ℤ t) × (nat_abs (s +ℤ t) ≤ most_term * (n + k))
sum-more s t n k h l few =
    let f : SFits w128 t = omega (arith, ints) in
    let g : SFits w128 (s +ℤ t) = omega (arith, ints) in
    let d = to_z-of_z w128 t f in
    (rw d g, rw d (to_z-of_z w128 (s +ℤ t) g), omega (arith, ints))

steps_suc : (j : ℕ) (ps : List Point) (a b : Point) → suc j < length ps → a ≡ get_or ps j a → b ≡ get_or ps (suc j) b → steps (drop j ps) ≡ (a, b) ∷ steps (drop (suc j) ps)
steps_suc zero (p ∷ (q ∷ ps)) a b h e f = rw (e, f) refl
steps_suc (suc j) (p ∷ ps) a b h e f = steps_suc j ps a b (omega arith) e f
steps_suc _ _ a b h e f = absurd (omega arith)

-- the edges from an index on
steps_at : (i : ℕ) (ps : List Point) (a b : Point) → 1 ≤ i → i < length ps → a ≡ get_or ps (i - 1) a → b ≡ get_or ps i b → steps (drop (i - 1) ps) ≡ (a, b) ∷ steps (drop i ps)
steps_at zero ps a b some h e f = absurd (omega arith)
steps_at (suc j) ps a b some h e f =
    let same : suc j - 1 ≡ j = omega arith in
    let first : a ≡ get_or ps j a = subst (λ (n : ℕ). a ≡ get_or ps n a) same e in
    subst (λ (n : ℕ). steps (drop n ps) ≡ (a, b) ∷ steps (drop (suc j) ps)) (sym same) (steps_suc j ps a b h first f)

short : (ps : List Point) → length ps ≤ 1 → steps ps ≡ []
short (p ∷ (q ∷ ps)) h = absurd (omega arith)
short _ _ = refl

no_steps : (i : ℕ) (ps : List Point) → length ps ≤ i → steps (drop (i - 1) ps) ≡ []
no_steps i ps h = short (drop (i - 1) ps) (simp length-drop (omega arith))

regroup : (s x r total : ℤ) → s +ℤ (x +ℤ r) ≡ total → (s +ℤ x) +ℤ r ≡ total
regroup s x r total e = omega (arith, ints)

-- a sum with one more edge
pub edge-more : (s : ℤ) (i : ℕ) (ps : List Point) (a b : Point) → 1 ≤ i → i < length ps → a ≡ get_or ps (i - 1) a → b ≡ get_or ps i b
    → s +ℤ edge_sum shoelace_term (steps (drop (i - 1) ps)) ≡ shoelace ps → (s +ℤ shoelace_term a b) +ℤ edge_sum shoelace_term (steps (drop (i + 1 - 1) ps)) ≡ shoelace ps
edge-more s i ps a b some h e f total =
    let same : i + 1 - 1 ≡ i = omega arith in
    let more = ap (λ (es : List (Point × Point)). s +ℤ edge_sum shoelace_term es) (sym (steps_at i ps a b some h e f)) ∙ total in
    subst (λ (n : ℕ). (s +ℤ shoelace_term a b) +ℤ edge_sum shoelace_term (steps (drop n ps)) ≡ shoelace ps) (sym same)
    (regroup s (shoelace_term a b) (edge_sum shoelace_term (steps (drop i ps))) (shoelace ps) more)

nothing-more : (s : ℤ) → s ≡ s +ℤ pos 0
nothing-more s = omega (arith, ints)

-- once the index is past the last point, the sum so far is the shoelace sum of the ring
pub edges-done : (s : ℤ) (i : ℕ) (ps : List Point) → length ps ≤ i → s +ℤ edge_sum shoelace_term (steps (drop (i - 1) ps)) ≡ shoelace ps → s ≡ shoelace ps
edges-done s i ps h total = nothing-more s ∙ ap (λ (es : List (Point × Point)). s +ℤ edge_sum shoelace_term es) (sym (no_steps i ps h)) ∙ total

-- one more ring's points are still among all points
pub points_in-more : (rings : List (List Point)) (i : ℕ) (ring : List Point) → i < length rings → ring ≡ get_or rings i ring
    → (points_in (take (i + 1) rings) ≡ points_in (take i rings) + length ring) × (points_in (take i rings) + length ring ≤ points_in rings)
points_in-more rings i ring h e =
    let at : length (get_or rings i ring) ≡ length ring = ap length (sym e) in
    let more = sum_by_more length rings i ring h in
    let le = sum_by_more_le length rings i ring h in
    (omega arith, omega arith)

-- one more member adds its points to the sum, which stays at most that of all members
pub points_of-more : (members : List Member) (i : ℕ) (m : Member) → i < length members → m ≡ get_or members i m
    → (points_of (take (i + 1) members) ≡ points_of (take i members) + member_points m) × (points_of (take i members) + member_points m ≤ points_of members)
points_of-more members i m h e =
    let at : member_points (get_or members i m) ≡ member_points m = ap member_points (sym e) in
    let more = sum_by_more member_points members i m h in
    let le = sum_by_more_le member_points members i m h in
    (omega arith, omega arith)
