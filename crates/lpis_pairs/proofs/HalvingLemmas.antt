-- Boxes in stretches that are halved: each near pair is found in the stretches of one height.
use Rattle.std.proofs.Common.{◌≡◌, ℕ, zero, suc, ◌+◌, ◌-◌, ◌*◌, ◌/◌, ◌%◌, ◌<◌, ◌≤◌, true, ◌&&◌, nat_eq, nat_lt, List}
use Rattle.std.proofs.Common.{[], ◌∷◌, length, map, Some, ◌⊎◌, inl, inr, refl, ap, sym, ◌∙◌, subst, arith, Contains, slice_get, IsPermutation}
use Rattle.lpis_pairs.proofs.Common.{nat_tests, same_Some, slice_get_within, Triangle, Event, Extent, extent_of}
use Rattle.std.proofs.lemmas.List.{length-map}
use Rattle.std.proofs.lemmas.List.Sorted.{Contains-permutation}
use Rattle.lpis_pairs.specs.private.Holding.{AreBoxes, FindsAt, FindsHeld, FindsLevel, HasHolders, HasPlaces, IsHere, Waits, box_at, half, mark, no_box}
use Rattle.lpis_pairs.specs.private.Sweeping.{AreInOrder, FindsNear, GrowNear, IsTaken, JoinsAcross, JoinsAll, width_of}
use Rattle.lpis_pairs.proofs.ExtentLemmas.{Meet, near_boxes_meet, top_small}
use Rattle.lpis_pairs.proofs.FoundLemmas.{stands}
use Rattle.lpis_pairs.proofs.JoinedLemmas.{grows_on, taken_kept}
use Rattle.lpis_pairs.proofs.NearnessLemmas.{extent_read}

-- ---- halves
-- the box of a number, in stretches twice as high
box_half : (xs : List Extent) (i : ℕ) → box_at (map half xs) i ≡ half (box_at xs i)
box_half [] i = refl
box_half (x ∷ xs) zero = refl
box_half (x ∷ xs) (suc i) = box_half xs i

above : (a b : ℕ) → a < b → ((a % 2 ≡ 0) × (b ≡ a + 1)) ⊎ (a / 2 < b / 2)
above a b l = by (next a b l) (parity a)
  where
    next : (x y : ℕ) → x < y → (y ≡ x + 1) ⊎ (x + 1 < y)
    next x y l = grind arith

    parity : (x : ℕ) → (x % 2 ≡ 0) ⊎ (x % 2 ≡ 1)
    parity x = by_rest (x % 2) (omega arith)
      where
        by_rest : (r : ℕ) → r < 2 → (r ≡ 0) ⊎ (r ≡ 1)
        by_rest r l = grind arith

    by : (b ≡ a + 1) ⊎ (a + 1 < b) → (a % 2 ≡ 0) ⊎ (a % 2 ≡ 1) → ((a % 2 ≡ 0) × (b ≡ a + 1)) ⊎ (a / 2 < b / 2)
    by (inr m) p = inr (omega arith)
    by (inl e) (inl z) = inl (z, e)
    by (inl e) (inr o) = inr (omega arith)

below : (b t : ℕ) → b < t → ((t % 2 ≡ 1) × (b ≡ t - 1)) ⊎ (b / 2 < t / 2)
below b t l = by (next b t l) (parity t)
  where
    next : (x y : ℕ) → x < y → (y ≡ x + 1) ⊎ (x + 1 < y)
    next x y l = grind arith

    parity : (x : ℕ) → (x % 2 ≡ 0) ⊎ (x % 2 ≡ 1)
    parity x = by_rest (x % 2) (omega arith)
      where
        by_rest : (r : ℕ) → r < 2 → (r ≡ 0) ⊎ (r ≡ 1)
        by_rest r l = grind arith

    by : (t ≡ b + 1) ⊎ (b + 1 < t) → (t % 2 ≡ 0) ⊎ (t % 2 ≡ 1) → ((t % 2 ≡ 1) × (b ≡ t - 1)) ⊎ (b / 2 < t / 2)
    by (inr m) p = inr (omega arith)
    by (inl e) (inl z) = inr (omega arith)
    by (inl e) (inr o) = inl (o, omega arith)

told_first : (a t : ℕ) → a + 1 < t → a % 2 ≡ 0 → (nat_lt (a + 1) t && nat_eq (a % 2) 0) ≡ true
told_first a t l e = both (a + 1) t (a % 2) l e
  where
    both : (x y z : ℕ) → x < y → z ≡ 0 → (nat_lt x y && nat_eq z 0) ≡ true
    both x y z l e = grind (arith, nat_tests)

told_last : (a t : ℕ) → a + 1 < t → t % 2 ≡ 1 → (nat_lt (a + 1) t && nat_eq (t % 2) 1) ≡ true
told_last a t l e = both (a + 1) t (t % 2) l e
  where
    both : (x y z : ℕ) → x < y → z ≡ 1 → (nat_lt x y && nat_eq z 1) ≡ true
    both x y z l e = grind (arith, nat_tests)

-- what waits is found in the stretches of this height, or waits in those that are twice as high
waits_on : (x y : Extent) → Waits x y → IsHere x y ⊎ Waits (half x) (half y)
waits_on x y w = by (above x.bottom y.bottom w.0) (below y.bottom x.top w.1)
  where
    spans : (a b t : ℕ) → a < b → b < t → a + 1 < t
    spans a b t l m = omega arith

    by : ((x.bottom % 2 ≡ 0) × (y.bottom ≡ x.bottom + 1)) ⊎ (x.bottom / 2 < y.bottom / 2)
        → ((x.top % 2 ≡ 1) × (y.bottom ≡ x.top - 1)) ⊎ (y.bottom / 2 < x.top / 2) → IsHere x y ⊎ Waits (half x) (half y)
    by (inl h) k = inl (inl (told_first x.bottom x.top (spans x.bottom y.bottom x.top w.0 w.1) h.0, h.1))
    by (inr l) (inl k) = inl (inr (told_last x.bottom x.top (spans x.bottom y.bottom x.top w.0 w.1) k.0, k.1))
    by (inr l) (inr m) = inr (l, m)

-- ---- pairs by their triangles
-- a pair is taken, if it is so where its boxes meet
taken_if : (ts : List Triangle) (qs : List (ℕ × ℕ)) (i j : ℕ)
    → ((t u : Triangle) → slice_get ts i ≡ Some t → slice_get ts j ≡ Some u → Meet t u → IsTaken ts qs i j) → IsTaken ts qs i j
taken_if ts qs i j f = (
  λ n. (f n.t n.u n.at_i n.at_j (near_boxes_meet n.t n.u n.near)).0 n,
  λ n. (f n.u n.t n.at_j n.at_i (turned n.t n.u (near_boxes_meet n.t n.u n.near))).1 n,
)
  where
    turned : (t u : Triangle) → Meet t u → Meet u t
    turned t u m = record { left = m.right; right = m.left; bottom = m.top; top = m.bottom }

box_read : (ts : List Triangle) (i : ℕ) (t : Triangle) → slice_get ts i ≡ Some t → box_at (map extent_of ts) i ≡ extent_of t
box_read ts i t at = extent_read ts (map extent_of ts) i t no_box refl at

left_read : (ts : List Triangle) (boxes : List Extent) (i : ℕ) (t : Triangle) → AreBoxes (map extent_of ts) boxes → slice_get ts i ≡ Some t
    → (box_at boxes i).left ≡ (extent_of t).left
left_read ts boxes i t are at = are.left i ∙ ap (λ (x : Extent). x.left) (box_read ts i t at)

box_within : (ts : List Triangle) (boxes : List Extent) (i : ℕ) (t : Triangle) → AreBoxes (map extent_of ts) boxes → slice_get ts i ≡ Some t
    → i < length boxes
box_within ts boxes i t are at = subst (λ (n : ℕ). i < n) (sym (are.count ∙ length-map ts extent_of)) (slice_get_within ts i t at)

-- the same boxes
pub same_boxes : (xs : List Extent) → AreBoxes xs xs
same_boxes xs = record { count = refl; left = λ i. refl }

halved_boxes : (xs boxes : List Extent) → AreBoxes xs boxes → AreBoxes xs (map half boxes)
halved_boxes xs boxes are = record {
  count = length-map boxes half ∙ are.count;
  left = λ i. ap (λ (x : Extent). x.left) (box_half boxes i) ∙ are.left i;
}

-- how far behind one box another one begins
met : (s a b c d r : ℕ) → a ≡ c → b ≡ d → a ≤ b → d < r → (s * 4294967296 + b) - (s * 4294967296 + a) < r - c
met s a b c d r e f l m = omega arith

width_at : (ts : List Triangle) (i n : ℕ) (t : Triangle) → slice_get ts i ≡ Some t → n < (extent_of t).right - (extent_of t).left → n < width_of (slice_get ts i)
width_at ts i n t at l = rw at l

-- ---- the stretches of one height
-- two lists that are joined across, both ways, have what is to be found in the stretches of a height
pub finds_level : (ts : List Triangle) (boxes : List Extent) (hs ps holders places : List Event) (qs : List (ℕ × ℕ)) → AreBoxes (map extent_of ts) boxes
    → HasHolders boxes hs → IsPermutation hs holders → HasPlaces boxes ps → IsPermutation ps places
    → JoinsAcross ts holders places 0 qs → JoinsAcross ts places holders 1 qs → FindsLevel ts boxes qs
finds_level ts boxes hs ps holders places qs are has moved begin moved' join back h p here = taken_if ts qs h p (λ t u at_h at_p m. by t u at_h at_p m here)
  where
    at_stretch : (t u : Triangle) (s : ℕ) → slice_get ts h ≡ Some t → slice_get ts p ≡ Some u → Meet t u → (box_at boxes p).bottom ≡ s
        → Contains hs (mark (box_at boxes h) h s) → IsTaken ts qs h p
    at_stretch t u s at_h at_p m is held =
        let e = mark (box_at boxes h) h s in
        let f = mark (box_at boxes p) p s in
        let x : (k : ℕ) × (slice_get holders k ≡ Some e) = stands holders e (Contains-permutation hs holders e moved held) in
        let begins : Contains ps f = subst (λ (v : ℕ). Contains ps (mark (box_at boxes p) p v)) is (begin.all p (box_within ts boxes p u are at_p)) in
        let y : (k : ℕ) × (slice_get places k ≡ Some f) = stands places f (Contains-permutation ps places f moved' begins) in
        let a = left_read ts boxes h t are at_h in
        let b = left_read ts boxes p u are at_p in
        by_side (split (box_at boxes h).left (box_at boxes p).left) x y a b
      where
        split : (v w : ℕ) → (v ≤ w) ⊎ (w < v)
        split v w = grind arith

        no_gap : (s v w : ℕ) → v ≤ w → (s * 4294967296 + v) + 0 ≤ s * 4294967296 + w
        no_gap s v w l = omega arith

        one_gap : (s v w : ℕ) → w < v → (s * 4294967296 + w) + 1 ≤ s * 4294967296 + v
        one_gap s v w l = omega arith

        weaker : (v w : ℕ) → w < v → w ≤ v
        weaker v w l = omega arith

        by_side : ((box_at boxes h).left ≤ (box_at boxes p).left) ⊎ ((box_at boxes p).left < (box_at boxes h).left)
            → (k : ℕ) × (slice_get holders k ≡ Some (mark (box_at boxes h) h s)) → (k : ℕ) × (slice_get places k ≡ Some (mark (box_at boxes p) p s))
            → (box_at boxes h).left ≡ (extent_of t).left → (box_at boxes p).left ≡ (extent_of u).left → IsTaken ts qs h p
        by_side (inl l) x y a b =
            join x.0 (mark (box_at boxes h) h s) x.1 y.0 (mark (box_at boxes p) p s) y.1 (no_gap s _ _ l)
            (width_at ts h _ t at_h (met s (box_at boxes h).left (box_at boxes p).left (extent_of t).left (extent_of u).left (extent_of t).right a b l m.right)) refl
        by_side (inr l) x y a b =
            let r : IsTaken ts qs p h =
            back y.0 (mark (box_at boxes p) p s) y.1 x.0 (mark (box_at boxes h) h s) x.1 (one_gap s _ _ l)
            (width_at ts p _ u at_p (met s (box_at boxes p).left (box_at boxes h).left (extent_of u).left (extent_of t).left (extent_of u).right b a (weaker _ _ l) m.left)) refl in
            (r.1, r.0)

    by : (t u : Triangle) → slice_get ts h ≡ Some t → slice_get ts p ≡ Some u → Meet t u → IsHere (box_at boxes h) (box_at boxes p) → IsTaken ts qs h p
    by t u at_h at_p m (inl k) = at_stretch t u ((box_at boxes h).bottom + 1) at_h at_p m k.1 (has.first h (box_within ts boxes h t are at_h) k.0)
    by t u at_h at_p m (inr k) = at_stretch t u ((box_at boxes h).top - 1) at_h at_p m k.1 (has.last h (box_within ts boxes h t are at_h) k.0)

-- ---- boxes that begin at one height
-- events of all boxes where they begin, each joined with those behind it
pub finds_at : (ts : List Triangle) (before es : List Event) (qs : List (ℕ × ℕ)) → HasPlaces (map extent_of ts) before → IsPermutation before es
    → AreInOrder es → JoinsAll ts es qs → FindsAt ts qs
finds_at ts before es qs has moved order join h p level = taken_if ts qs h p by
  where
    xs : List Extent
    xs = map extent_of ts

    place : (i : ℕ) (t : Triangle) (s : ℕ) → slice_get ts i ≡ Some t → (box_at (map extent_of ts) i).bottom ≡ s
        → (k : ℕ) × (slice_get es k ≡ Some (mark (box_at (map extent_of ts) i) i s))
    place i t s at is =
        let f = mark (box_at (map extent_of ts) i) i s in
        stands es f (Contains-permutation before es f moved
        (subst (λ (v : ℕ). Contains before (mark (box_at (map extent_of ts) i) i v)) is (has.all i (box_within ts (map extent_of ts) i t (same_boxes (map extent_of ts)) at))))

    begins_behind : (s v w : ℕ) → s * 4294967296 + v ≤ s * 4294967296 + w → v ≤ w
    begins_behind s v w l = omega arith

    one_way : (i j : ℕ) (t u : Triangle) (s k m : ℕ) → slice_get ts i ≡ Some t → slice_get ts j ≡ Some u → (extent_of u).left < (extent_of t).right
        → slice_get es k ≡ Some (mark (box_at (map extent_of ts) i) i s) → slice_get es m ≡ Some (mark (box_at (map extent_of ts) j) j s) → k < m
        → IsTaken ts qs i j
    one_way i j t u s k m at_i at_j meets at_k at_m l =
        let e = mark (box_at (map extent_of ts) i) i s in
        let f = mark (box_at (map extent_of ts) j) j s in
        let same = same_boxes (map extent_of ts) in
        join k m e l at_k f at_m
        (width_at ts i _ t at_i (met s (box_at (map extent_of ts) i).left (box_at (map extent_of ts) j).left (extent_of t).left (extent_of u).left (extent_of t).right
        (left_read ts (map extent_of ts) i t same at_i) (left_read ts (map extent_of ts) j u same at_j)
        (begins_behind s _ _ (order k m e f l at_k at_m)) meets)) refl

    itself : (i j : ℕ) → i ≡ j → i < j → ⊥
    itself i j e l = omega arith

    cases : (k m : ℕ) → (k ≡ m) ⊎ ((k < m) ⊎ (m < k))
    cases k m = grind arith

    by : (t u : Triangle) → slice_get ts h ≡ Some t → slice_get ts p ≡ Some u → Meet t u → IsTaken ts qs h p
    by t u at_h at_p m =
        let s = (box_at (map extent_of ts) p).bottom in
        let x = place h t (box_at (map extent_of ts) p).bottom at_h level in
        let y = place p u (box_at (map extent_of ts) p).bottom at_p refl in
        by_case t u at_h at_p m x y (cases x.0 y.0)
      where
        by_case : (t u : Triangle) → slice_get ts h ≡ Some t → slice_get ts p ≡ Some u → Meet t u
            → (x : (k : ℕ) × (slice_get es k ≡ Some (mark (box_at (map extent_of ts) h) h (box_at (map extent_of ts) p).bottom)))
            → (y : (k : ℕ) × (slice_get es k ≡ Some (mark (box_at (map extent_of ts) p) p (box_at (map extent_of ts) p).bottom)))
            → (x.0 ≡ y.0) ⊎ ((x.0 < y.0) ⊎ (y.0 < x.0)) → IsTaken ts qs h p
        by_case t u at_h at_p m x y (inr (inl l)) =
            one_way h p t u (box_at (map extent_of ts) p).bottom x.0 y.0 at_h at_p m.right x.1 y.1 l
        by_case t u at_h at_p m x y (inr (inr l)) =
            let r = one_way p h u t (box_at (map extent_of ts) p).bottom y.0 x.0 at_p at_h m.left y.1 x.1 l in
            (r.1, r.0)
        by_case t u at_h at_p m x y (inl e) =
            let f = mark (box_at (map extent_of ts) h) h (box_at (map extent_of ts) p).bottom in
            let g = mark (box_at (map extent_of ts) p) p (box_at (map extent_of ts) p).bottom in
            let at : slice_get es y.0 ≡ Some f = subst (λ (k : ℕ). slice_get es k ≡ Some f) e x.1 in
            let one : h ≡ p = ap (λ (v : Event). v.index) (same_Some f g (sym at ∙ y.1)) in
            (λ n. absurd (itself h p one n.rising), λ n. absurd (itself p h (sym one) n.rising))

-- ---- all heights
-- the levels so far have found what does not wait any more
pub record LevelsBelow (ts : List Triangle) (xs boxes : List Extent) (highest : ℕ) (old new : List (ℕ × ℕ)) : Type 0 where
  pub grows : GrowNear ts old new
  pub found : (h p : ℕ) → Waits (box_at xs h) (box_at xs p) → IsTaken ts new h p ⊎ Waits (box_at boxes h) (box_at boxes p)

-- the boxes of a level are the boxes, and none is higher than this
pub record IsLevel (xs boxes : List Extent) (highest : ℕ) : Type 0 where
  pub are : AreBoxes xs boxes
  pub low : (i : ℕ) → (box_at boxes i).top ≤ highest

tops_small : (ts : List Triangle) (i : ℕ) → (box_at (map extent_of ts) i).top ≤ 4294967295
tops_small [] i = omega arith
tops_small (t ∷ ts) zero = top_small t
tops_small (t ∷ ts) (suc i) = tops_small ts i

-- the boxes of the first level
pub first_level : (ts : List Triangle) (xs boxes : List Extent) → xs ≡ map extent_of ts → boxes ≡ xs → IsLevel xs boxes 4294967295
first_level ts xs boxes e f = rw (f, e) (record { are = same_boxes (map extent_of ts); low = tops_small ts })

-- before the first level all wait
pub all_wait : (ts : List Triangle) (xs boxes : List Extent) (highest : ℕ) (ps : List (ℕ × ℕ)) → boxes ≡ xs → LevelsBelow ts xs boxes highest ps ps
all_wait ts xs boxes highest ps e = record {
  grows = record { kept = λ p c. c; near = λ a. a };
  found = λ h p w. inr (subst (λ (ys : List Extent). Waits (box_at ys h) (box_at ys p)) (sym e) w);
}

-- one level more
pub level_found : (ts : List Triangle) (xs boxes halves : List Extent) (highest lower : ℕ) (old ps qs : List (ℕ × ℕ)) → halves ≡ map half boxes
    → LevelsBelow ts xs boxes highest old ps → GrowNear ts ps qs → FindsLevel ts boxes qs → LevelsBelow ts xs halves lower old qs
level_found ts xs boxes halves highest lower old ps qs is done g level = record {
  grows = grows_on ts old ps qs done.grows g;
  found = λ h p w. by h p (done.found h p w);
}
  where
    by_height : (h p : ℕ) → IsHere (box_at boxes h) (box_at boxes p) ⊎ Waits (half (box_at boxes h)) (half (box_at boxes p))
        → IsTaken ts qs h p ⊎ Waits (box_at halves h) (box_at halves p)
    by_height h p (inl here) = inl (level h p here)
    by_height h p (inr w) = inr (subst (λ (ys : List Extent). Waits (box_at ys h) (box_at ys p)) (sym is)
        (subst (λ (x : Extent). Waits x (box_at (map half boxes) p)) (sym (box_half boxes h))
        (subst (λ (y : Extent). Waits (half (box_at boxes h)) y) (sym (box_half boxes p)) w)))

    by : (h p : ℕ) → IsTaken ts ps h p ⊎ Waits (box_at boxes h) (box_at boxes p) → IsTaken ts qs h p ⊎ Waits (box_at halves h) (box_at halves p)
    by h p (inl t) = inl (taken_kept ts ps qs h p g.kept t)
    by h p (inr w) = by_height h p (waits_on (box_at boxes h) (box_at boxes p) w)

-- the boxes of the next level
pub next_level : (xs boxes halves : List Extent) (highest : ℕ) → halves ≡ map half boxes → IsLevel xs boxes highest → IsLevel xs halves (highest / 2)
next_level xs boxes halves highest is level = rw is (record {
  are = halved_boxes xs boxes level.are;
  low = λ i. rw (box_half boxes i) (halves_below (box_at boxes i).top highest (level.low i));
})
  where
    halves_below : (t n : ℕ) → t ≤ n → t / 2 ≤ n / 2
    halves_below t n l = omega arith

-- past the last level none waits
pub none_waits : (ts : List Triangle) (xs boxes : List Extent) (highest : ℕ) (old qs : List (ℕ × ℕ)) → highest ≤ 0 → IsLevel xs boxes highest
    → LevelsBelow ts xs boxes highest old qs → FindsHeld ts xs qs
none_waits ts xs boxes highest old qs end level done h p w = by (done.found h p w)
  where
    by : IsTaken ts qs h p ⊎ Waits (box_at boxes h) (box_at boxes p) → IsTaken ts qs h p
    by (inl t) = t
    by (inr v) = absurd (under (box_at boxes p).bottom (box_at boxes h).top highest v.1 (level.low h) end)
      where
        under : (b t n : ℕ) → b < t → t ≤ n → n ≤ 0 → ⊥
        under b t n l m e = omega arith

-- ---- all near pairs
-- of a near pair both begin at one height, or one begins in the other
pub finds_all : (ts : List Triangle) (qs : List (ℕ × ℕ)) → FindsAt ts qs → FindsHeld ts (map extent_of ts) qs → FindsNear ts qs
finds_all ts qs level held i j n = by (cases (extent_of n.t).bottom (extent_of n.u).bottom)
  where
    cases : (a b : ℕ) → (a ≡ b) ⊎ ((a < b) ⊎ (b < a))
    cases a b = grind arith

    x : box_at (map extent_of ts) i ≡ extent_of n.t
    x = box_read ts i n.t n.at_i

    y : box_at (map extent_of ts) j ≡ extent_of n.u
    y = box_read ts j n.u n.at_j

    m : Meet n.t n.u
    m = near_boxes_meet n.t n.u n.near

    by : ((extent_of n.t).bottom ≡ (extent_of n.u).bottom) ⊎ (((extent_of n.t).bottom < (extent_of n.u).bottom) ⊎ ((extent_of n.u).bottom < (extent_of n.t).bottom))
        → Contains qs (i, j)
    by (inl e) = (level i j (ap (λ (v : Extent). v.bottom) x ∙ e ∙ sym (ap (λ (v : Extent). v.bottom) y))).0 n
    by (inr (inl l)) = (held i j (subst (λ (v : Extent). Waits v (box_at (map extent_of ts) j)) (sym x) (subst (λ (w : Extent). Waits (extent_of n.t) w) (sym y) (l, m.top)))).0 n
    by (inr (inr l)) = (held j i (subst (λ (v : Extent). Waits v (box_at (map extent_of ts) i)) (sym y) (subst (λ (w : Extent). Waits (extent_of n.u) w) (sym x) (l, m.bottom)))).1 n

-- what was found at one height stays so
pub at_kept : (ts : List Triangle) (ps qs : List (ℕ × ℕ)) → GrowNear ts ps qs → FindsAt ts ps → FindsAt ts qs
at_kept ts ps qs g level = λ h p e. taken_kept ts ps qs h p g.kept (level h p e)
