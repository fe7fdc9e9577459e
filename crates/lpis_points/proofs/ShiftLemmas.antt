-- The shift law: a point close to p that lies on no line through two points in range, and that each edge passes as it
-- passes p.
use Rattle.std.proofs.Common.{◌≡◌, ◌≢◌, ℤ, pos, neg_ℤ, ◌+ℤ◌, ◌-ℤ◌, ◌*ℤ◌, ◌≤ℤ◌, ◌<ℤ◌, [], ◌∷◌, ap, sym, ◌∙◌, arith}
use Rattle.lpis_points.proofs.Common.{ints, by_lt_z, Point, RationalPoint, orient_at, crossing, crossing_of}
use Rattle.lpis_points.specs.Shift.{shifted}
use Rattle.lpis_points.proofs.IntRingLemmas.{var, con, ◌⊕◌, ◌⊖◌, ◌⊗◌, ring}
use Rattle.lpis_points.proofs.UnknownsLemmas.{ax, ay, bx, by_, px, py, d, n, unknowns_of, side}
use Rattle.lpis_points.proofs.CrossingLemmas.{up_left, down_right, both_below, both_above, up_not_left, down_not_right}
use Rattle.lpis_points.proofs.PointLemmas.{point_eq}
use Rattle.lpis_points.proofs.SignLemmas.{not_neg, pos-mul-not_neg, neg-mul-not_neg}

-- a point shifted by any n
shift_any : (a b : Point) (p : RationalPoint) (m : ℤ) → (b.x -ℤ a.x) *ℤ ((p.y *ℤ m *ℤ m +ℤ pos 1) -ℤ a.y *ℤ (p.d *ℤ m *ℤ m)) -ℤ
    (b.y -ℤ a.y) *ℤ ((p.x *ℤ m *ℤ m +ℤ m) -ℤ a.x *ℤ (p.d *ℤ m *ℤ m)) ≡ m *ℤ m *ℤ orient_at a b p -ℤ m *ℤ (b.y -ℤ a.y) +ℤ (b.x -ℤ a.x)
unfolding orient_at
shift_any a b p m = ring (unknowns_of a b a p a a m)
    ((bx ⊖ ax) ⊗ ((py ⊗ n ⊗ n ⊕ con (pos 1)) ⊖ ay ⊗ (d ⊗ n ⊗ n)) ⊖ (by_ ⊖ ay) ⊗ ((px ⊗ n ⊗ n ⊕ n) ⊖ ax ⊗ (d ⊗ n ⊗ n)))
    (n ⊗ n ⊗ side ax ay bx by_ ⊖ n ⊗ (by_ ⊖ ay) ⊕ (bx ⊖ ax)) tt

-- the side of the shifted point: 10^24 times that of the point, less 10^12 times the edge's step in y, plus that in x
pub orient_at-shifted : (a b : Point) (p : RationalPoint) → orient_at a b (shifted p) ≡ pos 1000000000000 *ℤ pos 1000000000000 *ℤ orient_at a b p -ℤ pos 1000000000000 *ℤ (b.y -ℤ a.y) +ℤ (b.x -ℤ a.x)
unfolding orient_at
orient_at-shifted a b p = shift_any a b p (pos 1000000000000)

-- a number from -40000000000 to 40000000000: a step between coordinates
record IsStep (z : ℤ) : Type 0 where
  low : neg_ℤ (pos 40000000000) ≤ℤ z
  high : z ≤ℤ pos 40000000000

step_x : (a b : Point) → IsStep (b.x -ℤ a.x)
step_x a b = record {
  low = omega (arith, ints, a.x_in_range.0, a.x_in_range.1, b.x_in_range.0, b.x_in_range.1);
  high = omega (arith, ints, a.x_in_range.0, a.x_in_range.1, b.x_in_range.0, b.x_in_range.1);
}

step_y : (a b : Point) → IsStep (b.y -ℤ a.y)
step_y a b = record {
  low = omega (arith, ints, a.y_in_range.0, a.y_in_range.1, b.y_in_range.0, b.y_in_range.1);
  high = omega (arith, ints, a.y_in_range.0, a.y_in_range.1, b.y_in_range.0, b.y_in_range.1);
}

not_nought : (k dx dy : ℤ) → IsStep dx → IsStep dy → (dx ≡ pos 0 → dy ≡ pos 0 → ⊥) → pos 1000000000000000000000000 *ℤ k -ℤ pos 1000000000000 *ℤ dy +ℤ dx ≡ pos 0 → ⊥
not_nought k dx dy sx sy n e =
    n (omega (arith, ints, sx.low, sx.high, sy.low, sy.high)) (omega (arith, ints, sx.low, sx.high, sy.low, sy.high))

-- the shifted point is off each line through two different points
pub shifted_off : (a b : Point) (p : RationalPoint) → a ≢ b → orient_at a b (shifted p) ≢ pos 0
shifted_off a b p n e = not_nought (orient_at a b p) (b.x -ℤ a.x) (b.y -ℤ a.y) (step_x a b) (step_y a b)
    (λ z w. n (point_eq a b (omega (arith, ints)) (omega (arith, ints)))) (sym (orient_at-shifted a b p) ∙ e)

-- ---- the crossings
-- the edge from height s to height t rises by dy, times a positive number
record Rises (s t dy : ℤ) : Type 0 where
  up : s <ℤ t → pos 0 <ℤ dy
  down : t <ℤ s → dy <ℤ pos 0

abbrev far : ℤ → ℤ
far z = pos 1000000000000000000000000 *ℤ z

abbrev side_of : ℤ → ℤ → ℤ → ℤ
side_of k dx dy = pos 1000000000000000000000000 *ℤ k -ℤ pos 1000000000000 *ℤ dy +ℤ dx

far_le : (s y : ℤ) → s ≤ℤ y → far s ≤ℤ (far y +ℤ pos 1)
far_le s y h = omega (arith, ints)

far_lt : (s y : ℤ) → y <ℤ s → (far y +ℤ pos 1) <ℤ far s
far_lt s y h = omega (arith, ints)

side_up_yes : (k dx dy : ℤ) → IsStep dx → IsStep dy → pos 0 <ℤ dy → pos 0 <ℤ k → pos 0 <ℤ side_of k dx dy
side_up_yes k dx dy sx sy h p = omega (arith, ints, sx.low, sx.high, sy.low, sy.high)

side_up_no : (k dx dy : ℤ) → IsStep dx → IsStep dy → pos 0 <ℤ dy → k ≤ℤ pos 0 → side_of k dx dy ≤ℤ pos 0
side_up_no k dx dy sx sy h p = omega (arith, ints, sx.low, sx.high, sy.low, sy.high)

side_down_yes : (k dx dy : ℤ) → IsStep dx → IsStep dy → dy <ℤ pos 0 → k <ℤ pos 0 → side_of k dx dy <ℤ pos 0
side_down_yes k dx dy sx sy h p = omega (arith, ints, sx.low, sx.high, sy.low, sy.high)

side_down_no : (k dx dy : ℤ) → IsStep dx → IsStep dy → dy <ℤ pos 0 → pos 0 ≤ℤ k → pos 0 ≤ℤ side_of k dx dy
side_down_no k dx dy sx sy h p = omega (arith, ints, sx.low, sx.high, sy.low, sy.high)

same_crossing : (s t y k dx dy : ℤ) → IsStep dx → IsStep dy → Rises s t dy → crossing_of (far s) (far t) (far y +ℤ pos 1) (side_of k dx dy) ≡ crossing_of s t y k
same_crossing s t y k dx dy sx sy r = by_lt_z y s
    (λ hs. by_lt_z y t
    (λ ht. both_above _ _ _ (side_of k dx dy) (far_lt s y hs) (far_lt t y ht) ∙ sym (both_above _ _ _ k hs ht))
    (λ ht. let n = r.down (omega (arith, ints)) in by_lt_z k (pos 0)
    (λ l. down_right _ _ _ _ (far_lt s y hs) (far_le t y ht) (side_down_yes k dx dy sx sy n l) ∙ sym (down_right _ _ _ _ hs ht l))
    (λ l. down_not_right _ _ _ _ (far_lt s y hs) (far_le t y ht) (side_down_no k dx dy sx sy n l) ∙ sym (down_not_right _ _ _ _ hs ht l))))
    (λ hs. by_lt_z y t
    (λ ht. let p = r.up (omega (arith, ints)) in by_lt_z (pos 0) k
    (λ l. up_left _ _ _ _ (far_le s y hs) (far_lt t y ht) (side_up_yes k dx dy sx sy p l) ∙ sym (up_left _ _ _ _ hs ht l))
    (λ l. up_not_left _ _ _ _ (far_le s y hs) (far_lt t y ht) (side_up_no k dx dy sx sy p l) ∙ sym (up_not_left _ _ _ _ hs ht l)))
    (λ ht. both_below _ _ _ (side_of k dx dy) (far_le s y hs) (far_le t y ht) ∙ sym (both_below _ _ _ k hs ht)))

rise : (low high unit : ℤ) → high *ℤ unit -ℤ low *ℤ unit ≡ (high -ℤ low) *ℤ unit
rise low high unit = let l = var 0 in let h = var 1 in let u = var 2 in ring (low ∷ high ∷ unit ∷ []) (h ⊗ u ⊖ l ⊗ u) ((h ⊖ l) ⊗ u) tt

rises : (ay by_ d : ℤ) → pos 0 <ℤ d → Rises (ay *ℤ d) (by_ *ℤ d) (by_ -ℤ ay)
rises ay by_ d h =
    let e = rise ay by_ d in
    record {
      up = λ l. by_lt_z (pos 0) (by_ -ℤ ay) (λ p. p) (λ q. let n = neg-mul-not_neg (by_ -ℤ ay) d q (not_neg d h) in absurd (omega (arith, ints)));
      down = λ l. by_lt_z (by_ -ℤ ay) (pos 0) (λ p. p) (λ q. let n = pos-mul-not_neg (by_ -ℤ ay) d q (not_neg d h) in absurd (omega (arith, ints)));
    }

far_height : (y d : ℤ) → y *ℤ (d *ℤ pos 1000000000000 *ℤ pos 1000000000000) ≡ far (y *ℤ d)
far_height y d =
    let height = var 0 in let unit = var 1 in let shift = con (pos 1000000000000) in
    ring (y ∷ d ∷ []) (height ⊗ (unit ⊗ shift ⊗ shift)) (con (pos 1000000000000000000000000) ⊗ (height ⊗ unit)) tt

far_level : (y : ℤ) → y *ℤ pos 1000000000000 *ℤ pos 1000000000000 ≡ far y
far_level y = let height = var 0 in ring (y ∷ []) (height ⊗ con (pos 1000000000000) ⊗ con (pos 1000000000000)) (con (pos 1000000000000000000000000) ⊗ height) tt

four : {A B C D : Type 0} (f : A → B → C → D → ℤ) {a a' : A} {b b' : B} {c c' : C} {d d' : D} → a ≡ a' → b ≡ b' → c ≡ c' → d ≡ d' → f a b c d ≡ f a' b' c' d'
four f p q r s = cc

-- each edge passes the shifted point as it passes the point
pub crossing-shifted : (a b : Point) (p : RationalPoint) → pos 0 <ℤ p.d → crossing a b (shifted p) ≡ crossing a b p
unfolding crossing
crossing-shifted a b p h =
    four crossing_of (far_height a.y p.d) (far_height b.y p.d) (ap (λ (z : ℤ). z +ℤ pos 1) (far_level p.y))
    (orient_at-shifted a b p) ∙ same_crossing (a.y *ℤ p.d) (b.y *ℤ p.d) p.y (orient_at a b p) (b.x -ℤ a.x)
    (b.y -ℤ a.y) (step_x a b) (step_y a b) (rises a.y b.y p.d h)
