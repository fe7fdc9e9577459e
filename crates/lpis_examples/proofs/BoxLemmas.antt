-- Which points a rectangle contains, at every rational point.
use Rattle.std.proofs.Common.{◌≡◌, ℕ, ℤ, pos, negsuc, ◌+ℤ◌, ◌*ℤ◌, ◌≤ℤ◌, ◌<ℤ◌, inl, inr, ◌⊎◌, ◌↔◌, arith}
use Rattle.std.proofs.lemmas.Int.{by_lt_z, ints}
use Rattle.lpis_points.specs.Plane.{RationalPoint, crossing_of, crossing, orient_at}
use Rattle.lpis_rings.specs.Edges.{turns, Contains, shell_edges}
use Rattle.lpis_rings.specs.Map.{IsOneOrNone}
use Rattle.lpis_rings.proofs.Shared.{contains_by_one_turn}
use Rattle.lpis_checker.specs.SoundMap.{TurnsTell}
use Rattle.lpis_examples.specs.Shapes.{box, corner, land, IsWithin}

-- ---- the sides of a rectangle
level : (s y side : ℤ) → crossing_of s s y side ≡ pos 0
level s y side = grind (arith, ints)

up_in : (s t y side : ℤ) → s ≤ℤ y → y <ℤ t → pos 0 <ℤ side → crossing_of s t y side ≡ pos 1
up_in s t y side h k l = grind (arith, ints)

up_beside : (s t y side : ℤ) → s <ℤ t → side ≤ℤ pos 0 → crossing_of s t y side ≡ pos 0
up_beside s t y side h k = grind (arith, ints)

up_below : (s t y side : ℤ) → s <ℤ t → y <ℤ s → crossing_of s t y side ≡ pos 0
up_below s t y side h k = grind (arith, ints)

up_above : (s t y side : ℤ) → s <ℤ t → t ≤ℤ y → crossing_of s t y side ≡ pos 0
up_above s t y side h k = grind (arith, ints)

down_in : (s t y side : ℤ) → t ≤ℤ y → y <ℤ s → side <ℤ pos 0 → crossing_of s t y side ≡ negsuc 0
down_in s t y side h k l = grind (arith, ints)

down_beside : (s t y side : ℤ) → t <ℤ s → pos 0 ≤ℤ side → crossing_of s t y side ≡ pos 0
down_beside s t y side h k = grind (arith, ints)

down_below : (s t y side : ℤ) → t <ℤ s → y <ℤ t → crossing_of s t y side ≡ pos 0
down_below s t y side h k = grind (arith, ints)

down_above : (s t y side : ℤ) → t <ℤ s → s ≤ℤ y → crossing_of s t y side ≡ pos 0
down_above s t y side h k = grind (arith, ints)

-- ---- their sum
abbrev sum : ℤ → ℤ → ℤ → ℤ → ℤ → ℤ → ℤ → ℤ
sum b t y s₁ s₂ s₃ s₄ = crossing_of b b y s₁ +ℤ (crossing_of b t y s₂ +ℤ (crossing_of t t y s₃ +ℤ (crossing_of t b y s₄ +ℤ pos 0)))

added : (b t y s₁ s₂ s₃ s₄ m n : ℤ) → crossing_of b t y s₂ ≡ m → crossing_of t b y s₄ ≡ n → sum b t y s₁ s₂ s₃ s₄ ≡ m +ℤ n
added b t y s₁ s₂ s₃ s₄ m n e f = omega (arith, ints, level b y s₁, level t y s₃, e, f)

-- 1 within, and 0 elsewhere
abbrev pub Told : ℤ → Type 0 → Type 0
Told n W = ((n ≡ pos 1) × W) ⊎ ((n ≡ pos 0) × (W → ⊥))

-- the point has the sides of a rectangle from l to r and from b to t as these signs say
record Sides (l r x s₂ s₄ : ℤ) : Type 0 where
  right_of : x <ℤ r → pos 0 <ℤ s₂
  not_right_of : r ≤ℤ x → s₂ ≤ℤ pos 0
  left_of : l ≤ℤ x → pos 0 ≤ℤ s₄
  not_left_of : x <ℤ l → s₄ <ℤ pos 0

told : (l r b t x y s₁ s₂ s₃ s₄ : ℤ) → l <ℤ r → b <ℤ t → Sides l r x s₂ s₄ → Told (sum b t y s₁ s₂ s₃ s₄) ((l ≤ℤ x) × (x <ℤ r) × (b ≤ℤ y) × (y <ℤ t))
told l r b t x y s₁ s₂ s₃ s₄ w h s =
    by_lt_z y b (λ low. none (up_below b t y s₂ h low) (down_below t b y s₄ h low) (λ q. no y b low q.2))
    (λ high. by_lt_z y t (λ below. within high below) (λ above. none (up_above b t y s₂ h above) (down_above t b y s₄ h above) (λ q. no y t q.3 above)))
  where
    no : (a c : ℤ) → a <ℤ c → c ≤ℤ a → ⊥
    no a c = omega (arith, ints)

    none : crossing_of b t y s₂ ≡ pos 0 → crossing_of t b y s₄ ≡ pos 0 → ((l ≤ℤ x) × (x <ℤ r) × (b ≤ℤ y) × (y <ℤ t) → ⊥) → Told (sum b t y s₁ s₂ s₃ s₄) ((l ≤ℤ x) × (x <ℤ r) × (b ≤ℤ y) × (y <ℤ t))
    none e f out = inr (added b t y s₁ s₂ s₃ s₄ (pos 0) (pos 0) e f, out)

    within : b ≤ℤ y → y <ℤ t → Told (sum b t y s₁ s₂ s₃ s₄) ((l ≤ℤ x) × (x <ℤ r) × (b ≤ℤ y) × (y <ℤ t))
    within high below =
        by_lt_z x l
        (λ west. let above = s.right_of (omega (arith, ints, w, west)) in
        inr (added b t y s₁ s₂ s₃ s₄ (pos 1) (negsuc 0) (up_in b t y s₂ high below above) (down_in t b y s₄ high below (s.not_left_of west)), λ q. no x l west q.0))
        (λ east. by_lt_z x r
        (λ in'. inl (added b t y s₁ s₂ s₃ s₄ (pos 1) (pos 0) (up_in b t y s₂ high below (s.right_of in')) (down_beside t b y s₄ h (s.left_of east)), (east, in', high, below)))
        (λ past. none (up_beside b t y s₂ h (s.not_right_of past)) (down_beside t b y s₄ h (s.left_of east)) (λ q. no x r q.1 past)))

-- ---- rectangles
-- the turns of a rectangle round a point are 1 within and 0 elsewhere
abbrev pub IsBox : ℕ → ℕ → ℕ → ℕ → Type 0
IsBox left low right high = (p : RationalPoint) → pos 0 <ℤ p.d → Told (turns (land (box left low right high)) p) (IsWithin left low right high p)

-- the square turns as a rectangle does
pub square_is : IsBox 0 0 4 4
unfolding crossing orient_at shell_edges
square_is p h =
    told (pos 0 *ℤ p.d) (pos 4 *ℤ p.d) (pos 0 *ℤ p.d) (pos 4 *ℤ p.d) p.x p.y
    (orient_at (corner 0 0) (corner 4 0) p) (orient_at (corner 4 0) (corner 4 4) p) (orient_at (corner 4 4) (corner 0 4) p) (orient_at (corner 0 4) (corner 0 0) p)
    (omega (arith, ints)) (omega (arith, ints))
    (record { right_of = λ k. omega (arith, ints); not_right_of = λ k. omega (arith, ints); left_of = λ k. omega (arith, ints); not_left_of = λ k. omega (arith, ints) })

-- the meadow turns as a rectangle does
pub meadow_is : IsBox 0 0 2 4
unfolding crossing orient_at shell_edges
meadow_is p h =
    told (pos 0 *ℤ p.d) (pos 2 *ℤ p.d) (pos 0 *ℤ p.d) (pos 4 *ℤ p.d) p.x p.y
    (orient_at (corner 0 0) (corner 2 0) p) (orient_at (corner 2 0) (corner 2 4) p) (orient_at (corner 2 4) (corner 0 4) p) (orient_at (corner 0 4) (corner 0 0) p)
    (omega (arith, ints)) (omega (arith, ints))
    (record { right_of = λ k. omega (arith, ints); not_right_of = λ k. omega (arith, ints); left_of = λ k. omega (arith, ints); not_left_of = λ k. omega (arith, ints) })

-- the wood turns as a rectangle does
pub wood_is : IsBox 2 0 4 4
unfolding crossing orient_at shell_edges
wood_is p h =
    told (pos 2 *ℤ p.d) (pos 4 *ℤ p.d) (pos 0 *ℤ p.d) (pos 4 *ℤ p.d) p.x p.y
    (orient_at (corner 2 0) (corner 4 0) p) (orient_at (corner 4 0) (corner 4 4) p) (orient_at (corner 4 4) (corner 2 4) p) (orient_at (corner 2 4) (corner 2 0) p)
    (omega (arith, ints)) (omega (arith, ints))
    (record { right_of = λ k. omega (arith, ints); not_right_of = λ k. omega (arith, ints); left_of = λ k. omega (arith, ints); not_left_of = λ k. omega (arith, ints) })

-- the field turns as a rectangle does
pub field_is : IsBox 4 0 8 4
unfolding crossing orient_at shell_edges
field_is p h =
    told (pos 4 *ℤ p.d) (pos 8 *ℤ p.d) (pos 0 *ℤ p.d) (pos 4 *ℤ p.d) p.x p.y
    (orient_at (corner 4 0) (corner 8 0) p) (orient_at (corner 8 0) (corner 8 4) p) (orient_at (corner 8 4) (corner 4 4) p) (orient_at (corner 4 4) (corner 4 0) p)
    (omega (arith, ints)) (omega (arith, ints))
    (record { right_of = λ k. omega (arith, ints); not_right_of = λ k. omega (arith, ints); left_of = λ k. omega (arith, ints); not_left_of = λ k. omega (arith, ints) })

-- the field turns as a rectangle does, a millimetre further to the east
pub far_field_is : IsBox 5 0 8 4
unfolding crossing orient_at shell_edges
far_field_is p h =
    told (pos 5 *ℤ p.d) (pos 8 *ℤ p.d) (pos 0 *ℤ p.d) (pos 4 *ℤ p.d) p.x p.y
    (orient_at (corner 5 0) (corner 8 0) p) (orient_at (corner 8 0) (corner 8 4) p) (orient_at (corner 8 4) (corner 5 4) p) (orient_at (corner 5 4) (corner 5 0) p)
    (omega (arith, ints)) (omega (arith, ints))
    (record { right_of = λ k. omega (arith, ints); not_right_of = λ k. omega (arith, ints); left_of = λ k. omega (arith, ints); not_left_of = λ k. omega (arith, ints) })

-- the ring of the hole turns as a rectangle does
pub hole_is : IsBox 1 1 3 3
unfolding crossing orient_at shell_edges
hole_is p h =
    told (pos 1 *ℤ p.d) (pos 3 *ℤ p.d) (pos 1 *ℤ p.d) (pos 3 *ℤ p.d) p.x p.y
    (orient_at (corner 1 1) (corner 3 1) p) (orient_at (corner 3 1) (corner 3 3) p) (orient_at (corner 3 3) (corner 1 3) p) (orient_at (corner 1 3) (corner 1 1) p)
    (omega (arith, ints)) (omega (arith, ints))
    (record { right_of = λ k. omega (arith, ints); not_right_of = λ k. omega (arith, ints); left_of = λ k. omega (arith, ints); not_left_of = λ k. omega (arith, ints) })

-- the second part of a parcel turns as a rectangle does
pub far_part_is : IsBox 8 0 12 4
unfolding crossing orient_at shell_edges
far_part_is p h =
    told (pos 8 *ℤ p.d) (pos 12 *ℤ p.d) (pos 0 *ℤ p.d) (pos 4 *ℤ p.d) p.x p.y
    (orient_at (corner 8 0) (corner 12 0) p) (orient_at (corner 12 0) (corner 12 4) p) (orient_at (corner 12 4) (corner 8 4) p) (orient_at (corner 8 4) (corner 8 0) p)
    (omega (arith, ints)) (omega (arith, ints))
    (record { right_of = λ k. omega (arith, ints); not_right_of = λ k. omega (arith, ints); left_of = λ k. omega (arith, ints); not_left_of = λ k. omega (arith, ints) })

-- the upper field turns as a rectangle does
pub upper_is : IsBox 4 4 8 8
unfolding crossing orient_at shell_edges
upper_is p h =
    told (pos 4 *ℤ p.d) (pos 8 *ℤ p.d) (pos 4 *ℤ p.d) (pos 8 *ℤ p.d) p.x p.y
    (orient_at (corner 4 4) (corner 8 4) p) (orient_at (corner 8 4) (corner 8 8) p) (orient_at (corner 8 8) (corner 4 8) p) (orient_at (corner 4 8) (corner 4 4) p)
    (omega (arith, ints)) (omega (arith, ints))
    (record { right_of = λ k. omega (arith, ints); not_right_of = λ k. omega (arith, ints); left_of = λ k. omega (arith, ints); not_left_of = λ k. omega (arith, ints) })

-- a polygon with such turns contains what is within
pub contained : {W : Type 0} (n : ℤ) (inside : Type 0) → (IsOneOrNone n → inside ↔ (n ≡ pos 1)) → Told n W → inside ↔ W
contained n inside c (inl q) = let d = c (inr q.0) in (λ i. q.1, λ w. d.1 q.0)
contained n inside c (inr q) = let d = c (inl q.0) in (λ i. absurd (nought n q.0 (d.0 i)), λ w. absurd (q.1 w))
  where
    nought : (n : ℤ) → n ≡ pos 0 → n ≡ pos 1 → ⊥
    nought n e f = omega (arith, ints, e, f)

-- the turns of a rectangle, and the points that it contains
pub inside : (left low right high : ℕ) → IsBox left low right high → (p : RationalPoint) → pos 0 <ℤ p.d → Contains (land (box left low right high)) p ↔ IsWithin left low right high p
inside left low right high is p h =
    let ms = land (box left low right high) in
    contained (turns ms p) (Contains ms p) (contains_by_one_turn ms p) (is p h)

-- the turns of a rectangle tell which points it contains
pub tell : (left low right high : ℕ) → IsBox left low right high → (p : RationalPoint) → pos 0 <ℤ p.d
    → TurnsTell (Contains (land (box left low right high)) p) (turns (land (box left low right high)) p)
tell left low right high is p h = by (is p h)
  where
    by : Told (turns (land (box left low right high)) p) (IsWithin left low right high p) → TurnsTell (Contains (land (box left low right high)) p) (turns (land (box left low right high)) p)
    by (inl q) = (inr q.0, contains_by_one_turn (land (box left low right high)) p (inr q.0))
    by (inr q) = (inl q.0, contains_by_one_turn (land (box left low right high)) p (inl q.0))
