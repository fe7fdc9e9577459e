-- A sweep finds every near pair: the two triangles have events in the lowest strip that both meet, and there they are
-- joined.
use Rattle.std.specs.Option.{option_map}
use Rattle.std.proofs.Common.{◌≡◌, ℕ, ◌+◌, ◌-◌, ◌*◌, ◌/◌, ◌<◌, ◌≤◌, Bool, true, ◌||◌, nat_eq, List, map, Option, Some, ◌⊎◌, inl, inr, ap, sym, ◌∙◌, subst, arith, Contains, slice_get, IsPermutation}
use Rattle.lpis_pairs.proofs.Common.{nat_tests, same_Some, slice_get_within, get_or_from_slice_get, Triangle, Event, extent_of, IsNear, event}
use Rattle.std.proofs.Math.Nat.{div-mul-le_self}
use Rattle.std.proofs.lemmas.Nat.{le-div}
use Rattle.std.proofs.lemmas.Bool.{cases_order}
use Rattle.std.proofs.lemmas.List.Sorted.{Contains-permutation}
use Rattle.std.proofs.lemmas.List.Elements.{All-contains}
use Rattle.std.proofs.lemmas.Option.{slice_get-get_or, slice_get-map}
use Rattle.lpis_pairs.specs.NearPairs.{HasNearPairs, IsNearList}
use Rattle.lpis_pairs.specs.private.Sweeping.{AreInOrder, AreNear, FindsNear, HasEvents, IsRising, JoinsAll}
use Rattle.lpis_pairs.proofs.ExtentLemmas.{Meet, near_boxes_meet, bottom_upto_top}

-- a higher place is in no lower strip
strips_rise : (height x y : ℕ) → 0 < height → x ≤ y → x / height ≤ y / height
strips_rise height x y h l = le-div (x / height) y height h (omega (arith, div-mul-le_self x height))

-- where an event of a list stands
pub stands : (es : List Event) (e : Event) → Contains es e → (k : ℕ) × (slice_get es k ≡ Some e)
stands es e c = (c.0, slice_get-get_or es c.0 e c.1 ∙ ap (λ (x : Event). Some x) c.2)

stands_at : (ps : List (ℕ × ℕ)) (p : ℕ × ℕ) → Contains ps p → (k : ℕ) × (slice_get ps k ≡ Some p)
stands_at ps p c = (c.0, slice_get-get_or ps c.0 p c.1 ∙ ap (λ (x : ℕ × ℕ). Some x) c.2)

-- the box of a triangle, in the list of the boxes
triangle_box : (ts : List Triangle) (i : ℕ) (t : Triangle) → slice_get ts i ≡ Some t → slice_get (map extent_of ts) i ≡ Some (extent_of t)
triangle_box ts i t e = slice_get-map extent_of ts i ∙ ap (λ (o : Option Triangle). option_map extent_of o) e

-- a box that begins behind another one in a strip, and before its end
behind : (s left right other : ℕ) → s * 4294967296 + left ≤ s * 4294967296 + other → other < right
    → (s * 4294967296 + other) - (s * 4294967296 + left) < right - left
behind s left right other l m = omega arith

swapped : (a b : Bool) → (a || b) ≡ true → (b || a) ≡ true
swapped a b e = grind arith

at_strip : (ts : List Triangle) (height : ℕ) (before es : List Event) (ps : List (ℕ × ℕ)) → HasEvents (map extent_of ts) height before
    → IsPermutation before es → AreInOrder es → JoinsAll ts es ps → (i j : ℕ) (n : IsNear ts i j) (s : ℕ)
    → (extent_of n.t).bottom / height ≤ s → s ≤ (extent_of n.t).top / height → (extent_of n.u).bottom / height ≤ s
    → s ≤ (extent_of n.u).top / height
    → (nat_eq s ((extent_of n.t).bottom / height) || nat_eq s ((extent_of n.u).bottom / height)) ≡ true → Contains ps (i, j)
at_strip ts height before es ps has moved order join i j n s p q v w o = by_case (cases_order x.0 y.0)
  where
    m : Meet n.t n.u
    m = near_boxes_meet n.t n.u n.near

    x : (k : ℕ) × (slice_get es k ≡ Some (event (extent_of n.t) height i s))
    x = stands es (event (extent_of n.t) height i s) (Contains-permutation before es (event (extent_of n.t) height i s) moved (has.all i s (extent_of n.t) (triangle_box ts i n.t n.at_i) p q))

    y : (k : ℕ) × (slice_get es k ≡ Some (event (extent_of n.u) height j s))
    y = stands es (event (extent_of n.u) height j s) (Contains-permutation before es (event (extent_of n.u) height j s) moved (has.all j s (extent_of n.u) (triangle_box ts j n.u n.at_j) v w))

    by_case : (x.0 ≡ y.0) ⊎ ((x.0 < y.0) ⊎ (y.0 < x.0)) → Contains ps (i, j)
    by_case (inr (inl l)) =
        let e = event (extent_of n.t) height i s in
        let f = event (extent_of n.u) height j s in
        (join x.0 y.0 e l x.1 f y.1 (rw n.at_i (behind s (extent_of n.t).left (extent_of n.t).right (extent_of n.u).left (order x.0 y.0 e f l x.1 y.1) m.right)) o).0 n
    by_case (inr (inr l)) =
        let e = event (extent_of n.t) height i s in
        let f = event (extent_of n.u) height j s in
        (join y.0 x.0 f l y.1 e x.1 (rw n.at_j (behind s (extent_of n.u).left (extent_of n.u).right (extent_of n.t).left (order y.0 x.0 f e l y.1 x.1) m.left))
        (swapped (nat_eq s ((extent_of n.t).bottom / height)) (nat_eq s ((extent_of n.u).bottom / height)) o)).1 n
    by_case (inl e) =
        let g : slice_get es y.0 ≡ Some (event (extent_of n.t) height i s) = subst (λ (k : ℕ). slice_get es k ≡ Some (event (extent_of n.t) height i s)) e x.1 in
        let f : Some (event (extent_of n.t) height i s) ≡ Some (event (extent_of n.u) height j s) = sym g ∙ y.1 in
        let same : i ≡ j = ap (λ (v : Event). v.index) (same_Some (event (extent_of n.t) height i s) (event (extent_of n.u) height j s) f) in
        absurd (omega (arith, n.rising))

itself : (a b : ℕ) → (nat_eq b a || nat_eq b b) ≡ true
itself a b = grind (arith, nat_tests)

itself_first : (a b : ℕ) → (nat_eq a a || nat_eq a b) ≡ true
itself_first a b = grind (arith, nat_tests)

-- once each event is joined with all behind it, in whatever order they stand, each near pair is listed
pub finds_near_pairs : (ts : List Triangle) (height : ℕ) (before es : List Event) (ps : List (ℕ × ℕ)) → 0 < height
    → HasEvents (map extent_of ts) height before → IsPermutation before es → AreInOrder es → JoinsAll ts es ps
    → (i j : ℕ) → IsNear ts i j → Contains ps (i, j)
finds_near_pairs ts height before es ps h has moved order join i j n = by_case (split ((extent_of n.t).bottom / height) ((extent_of n.u).bottom / height))
  where
    split : (x y : ℕ) → (x ≤ y) ⊎ (y ≤ x)
    split x y = grind arith

    by_case : ((extent_of n.t).bottom / height ≤ (extent_of n.u).bottom / height) ⊎ ((extent_of n.u).bottom / height ≤ (extent_of n.t).bottom / height) → Contains ps (i, j)
    by_case (inl l) = at_strip ts height before es ps has moved order join i j n ((extent_of n.u).bottom / height) l
        (strips_rise height (extent_of n.u).bottom (extent_of n.t).top h
        (omega (arith, (near_boxes_meet n.t n.u n.near).top))) (omega arith)
        (strips_rise height (extent_of n.u).bottom (extent_of n.u).top h (bottom_upto_top n.u))
        (itself ((extent_of n.t).bottom / height) ((extent_of n.u).bottom / height))
    by_case (inr l) = at_strip ts height before es ps has moved order join i j n ((extent_of n.t).bottom / height)
        (omega arith) (strips_rise height (extent_of n.t).bottom (extent_of n.t).top h
        (bottom_upto_top n.t)) l (strips_rise height (extent_of n.t).bottom (extent_of n.u).top h
        (omega (arith, (near_boxes_meet n.t n.u n.near).bottom)))
        (itself_first ((extent_of n.t).bottom / height) ((extent_of n.u).bottom / height))

-- what was joined has the near pairs
pub has_near_pairs : (ts : List Triangle) (ps : List (ℕ × ℕ)) → AreNear ts ps → FindsNear ts ps → HasNearPairs ts ps
has_near_pairs ts ps near all = record {
  near = λ k p f. All-contains (λ (q : ℕ × ℕ). IsNear ts q.0 q.1) ps p near (k, slice_get_within ps k p f, get_or_from_slice_get ps k p p f);
  all = λ i j n. stands_at ps (i, j) (all i j n);
}

-- the same pairs, in order
pub near_list : (ts : List Triangle) (ps qs : List (ℕ × ℕ)) → HasNearPairs ts ps → IsRising qs
    → ((p : ℕ × ℕ) → (Contains qs p → Contains ps p) × (Contains ps p → Contains qs p)) → IsNearList ts qs
near_list ts ps qs has rising same = record {
  ascending = rising;
  near = λ k p f. let x = stands_at ps p ((same p).0 (k, slice_get_within qs k p f, get_or_from_slice_get qs k p p f)) in has.near x.0 p x.1;
  all = λ i j n. let x = has.all i j n in
      stands_at qs (i, j) ((same (i, j)).1 (x.0, slice_get_within ps x.0 (i, j) x.1, get_or_from_slice_get ps x.0 (i, j) (i, j) x.1));
}
