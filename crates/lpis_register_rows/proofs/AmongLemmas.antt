-- Shapes that are walked beside a set of identifiers, both ascending.
use Rattle.std.proofs.Common.{◌≡◌, ◌∙◌, ◌≤◌, ◌<◌, ◌+◌, ◌==◌, if◌then◌else◌, refl, sym, ap, subst, arith, ℕ, zero, suc, List, [], ◌∷◌, Bool, true, false, ◌||◌, Less, get_or, is_eq, length, nat_cmp}
use Rattle.lpis_register_rows.proofs.Common.{AllByRecursion, Entry, entry_at, has_id, last_live, nat_tests, same-exact, same_id, slice_cmp}
use Rattle.std.specs.Cmp.Lexicographic.{nat_list_cmp_total, texts_ties}
use Rattle.std.proofs.lemmas.Map.Keys.{sorted_head, sorted_tail}
use Rattle.lpis_lineage.proofs.Shared.{same-sym}
use Rattle.lpis_lineage.specs.Order.{IsAscending}
use Rattle.lpis_register_rows.specs.Shapes.{Shape, shape_ids}
use Rattle.lpis_register_rows.specs.private.Known.{AreAmong, passed}
use Rattle.lpis_register_rows.proofs.AscendingLemmas.{all-both, all-map}
use Rattle.lpis_register_rows.proofs.MarkLemmas.{all-unmap}

abbrev Below : List ℕ → List ℕ → Type 0
Below a b = slice_cmp nat_cmp a b ≡ Less

-- what is above an identifier is among those behind it
past : (id : List ℕ) (rest : List (List ℕ)) (q : List ℕ) → Below id q → has_id (id ∷ rest) q ≡ true → has_id rest q ≡ true
past id rest q less has = sym (ap (λ (b : Bool). b || has_id rest q) (same-sym q id ∙ texts_ties id q ∙ ap is_eq less)) ∙ has

past-all : (id : List ℕ) (rest : List (List ℕ)) (shapes : List Shape) → AllByRecursion (λ (s : Shape). Below id s.0) shapes → AreAmong (id ∷ rest) shapes → AreAmong rest shapes
past-all id rest shapes above among =
    all-both (λ (s : Shape). Below id s.0) (λ (s : Shape). has_id (id ∷ rest) s.0 ≡ true) (λ (s : Shape). has_id rest s.0 ≡ true) shapes (λ s less has. past id rest s.0 less has) above among

-- what is among identifiers that are all above one is above that one
above-rest : (id : List ℕ) (rest : List (List ℕ)) → AllByRecursion (Below id) rest → (q : List ℕ) → has_id rest q ≡ true → Below id q
above-rest id [] all q has = cc has
above-rest id (x ∷ rest) all q has = by (same_id q x) refl has (above-rest id rest all.1 q) where
  by : (b : Bool) → b ≡ same_id q x → (b || has_id rest q) ≡ true → (has_id rest q ≡ true → Below id q) → Below id q
  by true e there more = subst (Below id) (sym (same-exact q x (sym e))) all.0
  by false e there more = more there

-- the identifiers of a set that are left, and the shapes that are left beside them
pub record Walked (live rest : List (List ℕ)) (all left : List Shape) : Type 0 where
  pub rest_up : IsAscending rest
  pub left_up : IsAscending (shape_ids left)
  pub inside : (q : List ℕ) → has_id rest q ≡ true → has_id live q ≡ true
  pub sound : AreAmong live left → AreAmong live all
  pub whole : AreAmong live all → AreAmong rest left

-- one identifier more
pub walked-more : (live : List (List ℕ)) (id : List ℕ) (rest : List (List ℕ)) (all left : List Shape) → Walked live (id ∷ rest) all left → Walked live rest all (passed left id)
walked-more live id rest all [] w = record {
  rest_up = sorted_tail (slice_cmp nat_cmp) id rest w.rest_up;
  left_up = w.left_up;
  inside = λ q has. w.inside q (or-right q has);
  sound = w.sound;
  whole = λ among. tt;
} where
  or-right : (q : List ℕ) → has_id rest q ≡ true → has_id (id ∷ rest) q ≡ true
  or-right q has = by (same_id q id) where
    by : (b : Bool) → (b || has_id rest q) ≡ true
    by true = refl
    by false = has
walked-more live id rest all (s ∷ left) w = by (same_id s.0 id) refl where
  above : AllByRecursion (λ (t : Shape). Below s.0 t.0) left
  above = all-unmap (Below s.0) (λ (t : Shape). t.0) left (sorted_head (slice_cmp nat_cmp) s.0 (shape_ids left) w.left_up)

  up : IsAscending rest
  up = sorted_tail (slice_cmp nat_cmp) id rest w.rest_up

  inside : (q : List ℕ) → has_id rest q ≡ true → has_id live q ≡ true
  inside q has = w.inside q (or-right (same_id q id)) where
    or-right : (b : Bool) → (b || has_id rest q) ≡ true
    or-right true = refl
    or-right false = has

  -- a shape that is not the first identifier's is above it
  beyond : same_id s.0 id ≡ false → AreAmong (id ∷ rest) (s ∷ left) → Below id s.0
  beyond miss among = above-rest id rest (sorted_head (slice_cmp nat_cmp) id rest w.rest_up) s.0 (sym (ap (λ (b : Bool). b || has_id rest s.0) miss) ∙ among.0)

  by : (b : Bool) → b ≡ same_id s.0 id → Walked live rest all (if b then left else s ∷ left)
  by true e = let is : s.0 ≡ id = same-exact s.0 id (sym e) in record {
    rest_up = up;
    left_up = sorted_tail (slice_cmp nat_cmp) s.0 (shape_ids left) w.left_up;
    inside = inside;
    sound = λ among. w.sound (w.inside s.0 (ap (λ (b : Bool). b || has_id rest s.0) (sym e)), among);
    whole = λ among. past-all id rest left (subst (λ (i : List ℕ). AllByRecursion (λ (t : Shape). Below i t.0) left) is above) (w.whole among).1;
  }
  by false e = record {
    rest_up = up;
    left_up = w.left_up;
    inside = inside;
    sound = w.sound;
    whole = λ among. let there = w.whole among in let less = beyond (sym e) there in
        past-all id rest (s ∷ left) (less, all-map (λ (t : Shape). Below s.0 t.0) (λ (t : Shape). Below id t.0) left (λ t more. nat_list_cmp_total.trans id s.0 t.0 less more) above) there;
  }

-- no shapes are among any identifiers
pub none-among : (ids : List (List ℕ)) (shapes : List Shape) → shapes ≡ [] → AreAmong ids shapes
none-among ids [] none = tt
none-among ids (s ∷ shapes) none = absurd cc

-- and among none there are no shapes
pub among-none : (shapes : List Shape) → AreAmong [] shapes → shapes ≡ []
among-none [] among = refl
among-none (s ∷ shapes) among = cc among.0

-- at the end of the set all shapes were passed where all are among it, and then alone
pub walked-all : (live : List (List ℕ)) (all left : List Shape) → Walked live [] all left → (left ≡ [] → AreAmong live all) × (AreAmong live all → left ≡ [])
walked-all live all left w = (λ none. w.sound (none-among live left none), λ among. among-none left (w.whole among))

-- a list of no length is empty
pub none-left : {A : Type 0} (left : List A) → (length left == 0) ≡ true → left ≡ []
none-left [] is = refl
none-left (x ∷ left) is = absurd (let none : length (x ∷ left) ≡ 0 = grind (arith, nat_tests, is) in omega (arith, none))

-- ---- the last release

get-entry : (h : List Entry) (i : ℕ) (e : Entry) → i < length h → e ≡ get_or h i e → e ≡ entry_at h i
get-entry [] i e lt is = absurd (omega (arith, lt))
get-entry (x ∷ h) zero e lt is = is
get-entry (x ∷ h) (suc i) e lt is = get-entry h i e (omega (arith, lt)) is

-- its identifiers are those of the last entry
pub last-set : (h : List Entry) (i : ℕ) (e : Entry) → i + 1 ≡ length h → e ≡ get_or h i e → e.live ≡ last_live h
last-set [] i e n is = absurd (omega (arith, n))
last-set (x ∷ h) i e n is =
    ap (λ (y : Entry). y.live) (get-entry (x ∷ h) i e (omega (arith, n)) is ∙ ap (entry_at (x ∷ h)) (let same : i ≡ length h = omega (arith, n) in same))

-- where there is none, there are none
pub last-none : (h : List Entry) → length h ≤ 0 → last_live h ≡ []
last-none [] le = refl
last-none (x ∷ h) le = absurd (omega (arith, le))
