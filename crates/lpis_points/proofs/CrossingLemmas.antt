-- How the three edges of a triangle pass a point, by signs alone.
use Rattle.std.proofs.Common.{◌≡◌, ◌≢◌, ℤ, pos, negsuc, ◌+ℤ◌, ◌-ℤ◌, ◌*ℤ◌, ◌≤ℤ◌, ◌<ℤ◌, int_lt, cond, ◌&&◌, arith, refl, ◌∙◌}
use Rattle.lpis_points.proofs.Common.{*ℤ_comm, ints, by_lt_z, crossing_of}
use Rattle.lpis_points.proofs.SignLemmas.{not_neg, pos-mul-pos, neg-mul-pos, pos-mul-not_pos, neg-mul-not_pos, zero_of_mul}

-- an edge that rises from y or below to above y, with the point left of it, has the crossing 1
pub up_left : (s t y o : ℤ) → s ≤ℤ y → y <ℤ t → pos 0 <ℤ o → crossing_of s t y o ≡ pos 1
up_left s t y o h k l = grind (arith, ints)

up_right : (s t y o : ℤ) → s ≤ℤ y → y <ℤ t → o <ℤ pos 0 → crossing_of s t y o ≡ pos 0
up_right s t y o h k l = grind (arith, ints)

down_left : (s t y o : ℤ) → y <ℤ s → t ≤ℤ y → pos 0 <ℤ o → crossing_of s t y o ≡ pos 0
down_left s t y o h k l = grind (arith, ints)

-- an edge that falls from above y to y or below, with the point right of it, has the crossing -1
pub down_right : (s t y o : ℤ) → y <ℤ s → t ≤ℤ y → o <ℤ pos 0 → crossing_of s t y o ≡ negsuc 0
down_right s t y o h k l = grind (arith, ints)

-- an edge with both ends at y or below has the crossing 0
pub both_below : (s t y o : ℤ) → s ≤ℤ y → t ≤ℤ y → crossing_of s t y o ≡ pos 0
both_below s t y o h k = grind (arith, ints)

-- an edge with both ends above y has the crossing 0
pub both_above : (s t y o : ℤ) → y <ℤ s → y <ℤ t → crossing_of s t y o ≡ pos 0
both_above s t y o h k = grind (arith, ints)

-- ---- three edges
-- 1 where all three sides are left, and 0 elsewhere
abbrev pub inside_of : ℤ → ℤ → ℤ → ℤ
inside_of o₁ o₂ o₃ = cond (int_lt (pos 0) o₁ && int_lt (pos 0) o₂ && int_lt (pos 0) o₃) (pos 1) (pos 0)

-- the crossings of the three edges of a triangle with corners at heights s, t and u, added
abbrev pub total_of : ℤ → ℤ → ℤ → ℤ → ℤ → ℤ → ℤ → ℤ
total_of s t u y o₁ o₂ o₃ = crossing_of s t y o₁ +ℤ crossing_of t u y o₂ +ℤ crossing_of u s y o₃

-- what holds of the heights s t u of three corners, and of the sides of a point at height y to the three edges
pub record Around (s t u y o₁ o₂ o₃ : ℤ) : Type 0 where
  pub off₁ : o₁ ≢ pos 0
  pub off₂ : o₂ ≢ pos 0
  pub off₃ : o₃ ≢ pos 0
  pub heights : o₂ *ℤ (s -ℤ y) +ℤ o₃ *ℤ (t -ℤ y) +ℤ o₁ *ℤ (u -ℤ y) ≡ pos 0
  pub sum : pos 0 ≤ℤ (o₁ +ℤ o₂ +ℤ o₃)
  pub spread : s ≡ y → t ≡ y → u ≡ y → ⊥

inside_yes : (o₁ o₂ o₃ : ℤ) → pos 0 <ℤ o₁ → pos 0 <ℤ o₂ → pos 0 <ℤ o₃ → inside_of o₁ o₂ o₃ ≡ pos 1
inside_yes o₁ o₂ o₃ h k l = grind (arith, ints)

inside_no₁ : (o₁ o₂ o₃ : ℤ) → o₁ <ℤ pos 0 → inside_of o₁ o₂ o₃ ≡ pos 0
inside_no₁ o₁ o₂ o₃ h = grind (arith, ints)

inside_no₃ : (o₁ o₂ o₃ : ℤ) → o₃ <ℤ pos 0 → inside_of o₁ o₂ o₃ ≡ pos 0
inside_no₃ o₁ o₂ o₃ h = grind (arith, ints)

positive_of : (o : ℤ) → o ≢ pos 0 → pos 0 ≤ℤ o → pos 0 <ℤ o
positive_of o n h = omega (arith, ints)

adds : {x y z w a b c e : ℤ} → x ≡ a → y ≡ b → z ≡ c → w ≡ e → a +ℤ b +ℤ c ≡ e → x +ℤ y +ℤ z ≡ w
adds p q r v h = omega (arith, ints)

-- one corner below, two above
below_left : (s t u y o₁ o₂ o₃ : ℤ) → Around s t u y o₁ o₂ o₃ → s ≤ℤ y → y <ℤ t → y <ℤ u → pos 0 <ℤ o₁ → pos 0 <ℤ o₃ → o₂ <ℤ pos 0 → ⊥
below_left s t u y o₁ o₂ o₃ r hs ht hu p₁ p₃ n₂ =
    let one = neg-mul-not_pos o₂ (s -ℤ y) (omega (arith, ints)) (omega (arith, ints)) in
    let two = pos-mul-pos o₃ (t -ℤ y) p₃ (omega (arith, ints)) in
    let three = pos-mul-pos o₁ (u -ℤ y) p₁ (omega (arith, ints)) in
    omega (arith, ints, r.heights)

below_right : (s t u y o₁ o₂ o₃ : ℤ) → Around s t u y o₁ o₂ o₃ → s ≤ℤ y → y <ℤ t → y <ℤ u → o₁ <ℤ pos 0 → o₃ <ℤ pos 0 → ⊥
below_right s t u y o₁ o₂ o₃ r hs ht hu n₁ n₃ =
    let one = pos-mul-not_pos o₂ (s -ℤ y) (omega (arith, ints, r.sum)) (omega (arith, ints)) in
    let two = neg-mul-pos o₃ (t -ℤ y) n₃ (omega (arith, ints)) in
    let three = neg-mul-pos o₁ (u -ℤ y) n₁ (omega (arith, ints)) in
    omega (arith, ints, r.heights)

one_below : (s t u y o₁ o₂ o₃ : ℤ) → Around s t u y o₁ o₂ o₃ → s ≤ℤ y → y <ℤ t → y <ℤ u → total_of s t u y o₁ o₂ o₃ ≡ inside_of o₁ o₂ o₃
one_below s t u y o₁ o₂ o₃ r hs ht hu = by_lt_z o₁ (pos 0)
    (λ n₁. by_lt_z o₃ (pos 0)
    (λ n₃. absurd (below_right s t u y o₁ o₂ o₃ r hs ht hu n₁ n₃))
    (λ q₃. let p₃ = positive_of o₃ r.off₃ q₃ in adds
    (up_right s t y o₁ hs ht n₁) (both_above t u y o₂ ht hu) (down_left u s y o₃ hu hs p₃) (inside_no₁ o₁ o₂ o₃ n₁)
    refl))
    (λ q₁. let p₁ = positive_of o₁ r.off₁ q₁ in by_lt_z o₃ (pos 0)
    (λ n₃. adds (up_left s t y o₁ hs ht p₁) (both_above t u y o₂ ht hu) (down_right u s y o₃ hu hs n₃) (inside_no₃ o₁ o₂ o₃ n₃) refl)
    (λ q₃. let p₃ = positive_of o₃ r.off₃ q₃ in by_lt_z o₂ (pos 0)
    (λ n₂. absurd (below_left s t u y o₁ o₂ o₃ r hs ht hu p₁ p₃ n₂))
    (λ q₂. adds (up_left s t y o₁ hs ht p₁) (both_above t u y o₂ ht hu)
    (down_left u s y o₃ hu hs p₃) (inside_yes o₁ o₂ o₃ p₁ (positive_of o₂ r.off₂ q₂) p₃) refl)))

-- one corner above, two below
above_left : (s t u y o₁ o₂ o₃ : ℤ) → Around s t u y o₁ o₂ o₃ → y <ℤ s → t ≤ℤ y → u ≤ℤ y → pos 0 <ℤ o₁ → pos 0 <ℤ o₃ → o₂ <ℤ pos 0 → ⊥
above_left s t u y o₁ o₂ o₃ r hs ht hu p₁ p₃ n₂ =
    let one = neg-mul-pos o₂ (s -ℤ y) n₂ (omega (arith, ints)) in
    let two = pos-mul-not_pos o₃ (t -ℤ y) (not_neg o₃ p₃) (omega (arith, ints)) in
    let three = pos-mul-not_pos o₁ (u -ℤ y) (not_neg o₁ p₁) (omega (arith, ints)) in
    omega (arith, ints, r.heights)

above_right : (s t u y o₁ o₂ o₃ : ℤ) → Around s t u y o₁ o₂ o₃ → y <ℤ s → t ≤ℤ y → u ≤ℤ y → o₁ <ℤ pos 0 → o₃ <ℤ pos 0 → ⊥
above_right s t u y o₁ o₂ o₃ r hs ht hu n₁ n₃ =
    let one = pos-mul-pos o₂ (s -ℤ y) (omega (arith, ints, r.sum)) (omega (arith, ints)) in
    let two = neg-mul-not_pos o₃ (t -ℤ y) (omega (arith, ints)) (omega (arith, ints)) in
    let three = neg-mul-not_pos o₁ (u -ℤ y) (omega (arith, ints)) (omega (arith, ints)) in
    omega (arith, ints, r.heights)

one_above : (s t u y o₁ o₂ o₃ : ℤ) → Around s t u y o₁ o₂ o₃ → y <ℤ s → t ≤ℤ y → u ≤ℤ y → total_of s t u y o₁ o₂ o₃ ≡ inside_of o₁ o₂ o₃
one_above s t u y o₁ o₂ o₃ r hs ht hu = by_lt_z o₁ (pos 0)
    (λ n₁. by_lt_z o₃ (pos 0)
    (λ n₃. absurd (above_right s t u y o₁ o₂ o₃ r hs ht hu n₁ n₃))
    (λ q₃. let p₃ = positive_of o₃ r.off₃ q₃ in adds
    (down_right s t y o₁ hs ht n₁) (both_below t u y o₂ ht hu) (up_left u s y o₃ hu hs p₃) (inside_no₁ o₁ o₂ o₃ n₁)
    refl))
    (λ q₁. let p₁ = positive_of o₁ r.off₁ q₁ in by_lt_z o₃ (pos 0)
    (λ n₃. adds (down_left s t y o₁ hs ht p₁) (both_below t u y o₂ ht hu) (up_right u s y o₃ hu hs n₃) (inside_no₃ o₁ o₂ o₃ n₃) refl)
    (λ q₃. let p₃ = positive_of o₃ r.off₃ q₃ in by_lt_z o₂ (pos 0)
    (λ n₂. absurd (above_left s t u y o₁ o₂ o₃ r hs ht hu p₁ p₃ n₂))
    (λ q₂. adds (down_left s t y o₁ hs ht p₁) (both_below t u y o₂ ht hu)
    (up_left u s y o₃ hu hs p₃) (inside_yes o₁ o₂ o₃ p₁ (positive_of o₂ r.off₂ q₂) p₃) refl)))

-- all on one side
same_height : (s y o : ℤ) → pos 0 <ℤ o → (o *ℤ (s -ℤ y)) ≡ pos 0 → s ≡ y
same_height s y o p e = let z = zero_of_mul (s -ℤ y) o p (*ℤ_comm (s -ℤ y) o ∙ e) in omega (arith, ints)

-- three numbers at most m, with a weighted sum that is not below 0, are m
pub all_level : (o₁ o₂ o₃ x y z m s : ℤ) → pos 0 <ℤ o₁ → pos 0 <ℤ o₂ → pos 0 <ℤ o₃ → x ≤ℤ m → y ≤ℤ m → z ≤ℤ m
    → o₁ *ℤ (x -ℤ m) +ℤ o₂ *ℤ (y -ℤ m) +ℤ o₃ *ℤ (z -ℤ m) ≡ s → pos 0 ≤ℤ s → (x ≡ m) × (y ≡ m) × (z ≡ m)
all_level o₁ o₂ o₃ x y z m s p q r h k l e n =
    let f = pos-mul-not_pos o₁ (x -ℤ m) (not_neg o₁ p) (omega (arith, ints)) in
    let g = pos-mul-not_pos o₂ (y -ℤ m) (not_neg o₂ q) (omega (arith, ints)) in
    let v = pos-mul-not_pos o₃ (z -ℤ m) (not_neg o₃ r) (omega (arith, ints)) in
    (same_height x m o₁ p (omega (arith, ints)), same_height y m o₂ q (omega (arith, ints)), same_height z m o₃ r (omega (arith, ints)))

none_left : (s t u y o₁ o₂ o₃ : ℤ) → Around s t u y o₁ o₂ o₃ → s ≤ℤ y → t ≤ℤ y → u ≤ℤ y → pos 0 <ℤ o₁ → pos 0 <ℤ o₂ → pos 0 <ℤ o₃ → ⊥
none_left s t u y o₁ o₂ o₃ r hs ht hu p₁ p₂ p₃ =
    let z = all_level o₂ o₃ o₁ s t u y (pos 0) p₂ p₃ p₁ hs ht hu r.heights (omega (arith, ints)) in r.spread z.0 z.1 z.2

none_right : (s t u y o₁ o₂ o₃ : ℤ) → Around s t u y o₁ o₂ o₃ → y <ℤ s → y <ℤ t → y <ℤ u → pos 0 <ℤ o₁ → pos 0 <ℤ o₂ → pos 0 <ℤ o₃ → ⊥
none_right s t u y o₁ o₂ o₃ r hs ht hu p₁ p₂ p₃ =
    omega (arith, ints, r.heights, pos-mul-pos o₂ (s -ℤ y) p₂ (omega (arith, ints)), pos-mul-pos o₃ (t -ℤ y) p₃ (omega (arith, ints)), pos-mul-pos o₁ (u -ℤ y) p₁ (omega (arith, ints)))

-- no side is left of all three: nothing is inside
pub inside_none : (o₁ o₂ o₃ : ℤ) → (pos 0 <ℤ o₁ → pos 0 <ℤ o₂ → pos 0 <ℤ o₃ → ⊥) → inside_of o₁ o₂ o₃ ≡ pos 0
inside_none o₁ o₂ o₃ n = by_lt_z (pos 0) o₁
    (λ p₁. by_lt_z (pos 0) o₂
    (λ p₂. by_lt_z (pos 0) o₃ (λ p₃. absurd (n p₁ p₂ p₃)) (λ q₃. grind (arith, ints)))
    (λ q₂. grind (arith, ints)))
    (λ q₁. grind (arith, ints))

turned_around : (s t u y o₁ o₂ o₃ : ℤ) → Around s t u y o₁ o₂ o₃ → Around t u s y o₂ o₃ o₁
turned_around s t u y o₁ o₂ o₃ r = record {
  off₁ = r.off₂;
  off₂ = r.off₃;
  off₃ = r.off₁;
  heights = omega (arith, ints, r.heights);
  sum = omega (arith, ints, r.sum);
  spread = λ a b c. r.spread c a b;
}

turned_total : (s t u y o₁ o₂ o₃ : ℤ) → total_of t u s y o₂ o₃ o₁ ≡ inside_of o₂ o₃ o₁ → total_of s t u y o₁ o₂ o₃ ≡ inside_of o₁ o₂ o₃
turned_total s t u y o₁ o₂ o₃ e = turn (crossing_of s t y o₁) (crossing_of t u y o₂) (crossing_of u s y o₃) ∙ e ∙ again o₁ o₂ o₃
  where
    turn : (x y z : ℤ) → x +ℤ y +ℤ z ≡ y +ℤ z +ℤ x
    turn x y z = omega (arith, ints)

    again : (o₁ o₂ o₃ : ℤ) → inside_of o₂ o₃ o₁ ≡ inside_of o₁ o₂ o₃
    again o₁ o₂ o₃ = grind (arith, ints)

-- the edges turn once round what is inside, and not at all round the rest
pub around_total : (s t u y o₁ o₂ o₃ : ℤ) → Around s t u y o₁ o₂ o₃ → total_of s t u y o₁ o₂ o₃ ≡ inside_of o₁ o₂ o₃
around_total s t u y o₁ o₂ o₃ r = by_lt_z y s
    (λ hs. by_lt_z y t
    (λ ht. by_lt_z y u
    (λ hu. adds (both_above s t y o₁ hs ht) (both_above t u y o₂ ht hu)
    (both_above u s y o₃ hu hs) (inside_none o₁ o₂ o₃ (none_right s t u y o₁ o₂ o₃ r hs ht hu)) refl)
    (λ hu. turned_total s t u y o₁ o₂ o₃ (turned_total t u s y o₂ o₃ o₁ (one_below u s t y o₃ o₁ o₂ r₂ hu hs ht))))
    (λ ht. by_lt_z y u
    (λ hu. turned_total s t u y o₁ o₂ o₃ (one_below t u s y o₂ o₃ o₁ r₁ ht hu hs))
    (λ hu. one_above s t u y o₁ o₂ o₃ r hs ht hu)))
    (λ hs. by_lt_z y t
    (λ ht. by_lt_z y u
    (λ hu. one_below s t u y o₁ o₂ o₃ r hs ht hu)
    (λ hu. turned_total s t u y o₁ o₂ o₃ (one_above t u s y o₂ o₃ o₁ r₁ ht hu hs)))
    (λ ht. by_lt_z y u
    (λ hu. turned_total s t u y o₁ o₂ o₃ (turned_total t u s y o₂ o₃ o₁ (one_above u s t y o₃ o₁ o₂ r₂ hu hs ht)))
    (λ hu. adds (both_below s t y o₁ hs ht) (both_below t u y o₂ ht hu)
    (both_below u s y o₃ hu hs) (inside_none o₁ o₂ o₃ (none_left s t u y o₁ o₂ o₃ r hs ht hu)) refl)))
  where
    r₁ : Around t u s y o₂ o₃ o₁
    r₁ = turned_around s t u y o₁ o₂ o₃ r

    r₂ : Around u s t y o₃ o₁ o₂
    r₂ = turned_around t u s y o₂ o₃ o₁ r₁

-- an edge that rises from y or below to above y has the crossing 0 where the point is not left of it
pub up_not_left : (s t y o : ℤ) → s ≤ℤ y → y <ℤ t → o ≤ℤ pos 0 → crossing_of s t y o ≡ pos 0
up_not_left s t y o h k l = grind (arith, ints)

-- an edge that falls from above y to y or below has the crossing 0 where the point is not right of it
pub down_not_right : (s t y o : ℤ) → y <ℤ s → t ≤ℤ y → pos 0 ≤ℤ o → crossing_of s t y o ≡ pos 0
down_not_right s t y o h k l = grind (arith, ints)
