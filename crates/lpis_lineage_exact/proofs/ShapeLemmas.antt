-- The shapes of a sound map, and the look-up of one.
use Rattle.std.proofs.Common.{◌≡◌, ◌∙◌, ◌<◌, ◌≤◌, ◌⊎◌, inl, inr, ◌<ℤ◌, ◌+◌, ℕ, zero, suc, pos, List, [], ◌∷◌}
use Rattle.std.proofs.Common.{Bool, false, Option, Some, None, Less, Equal, Greater, Ordering, is_eq, is_lt, nat_cmp}
use Rattle.std.proofs.Common.{length, map, get_or, refl, sym, ap, ap₂, subst, slice_get, arith, IsPermutation}
use Rattle.std.proofs.Common.{Contains as IsAmong}
use Rattle.std.specs.Cmp.Lexicographic.{nat_list_cmp_total, nat_list_eq_equiv, slice_cmp}
use Rattle.std.specs.List.{HoldsAt, IsDistinct}
use Rattle.std.specs.List.Sorted.{IsNonDecreasingBy, IsPartitionPoint, IsSortedByKey}
use Rattle.std.specs.Ordering.{ordering_index, ordering_reverse}
use Rattle.std.proofs.lemmas.Cmp.{tied_itself}
use Rattle.std.proofs.lemmas.List.{get_or_default}
use Rattle.std.proofs.lemmas.List.Sorted.{Contains-permutation, IsPermutation-map, IsPermutation-sym, searchable_from_sorted}
use Rattle.std.proofs.lemmas.Map.Keys.{IsDistinct-from_sorted, IsDistinct-IsPermutation, Less-from_sorted}
use Rattle.std.proofs.lemmas.Map.Views.{Contains-from_lookup, lookup-from_Contains}
use Rattle.std.proofs.lemmas.Option.{same_Some, slice_get-get_or}
use Rattle.lpis_points.specs.Plane.{RationalPoint}
use Rattle.lpis_rings.specs.declared.polygon.Member.{Member}
use Rattle.lpis_rings.specs.Edges.{Contains, turns}
use Rattle.lpis_rings.specs.Map.{IsOneOrNone}
use Rattle.lpis_tables.specs.Ids.{same_id}
use Rattle.lpis_edge_sums.proofs.Shared.{all_at}
use Rattle.lpis_lineage.proofs.Shared.{same-by_order, same-exact, same-sym}
use Rattle.lpis_lineage.specs.Order.{IsAscending}
use Rattle.lpis_release.specs.declared.parcel.Parcel.{Parcel}
use Rattle.lpis_release.specs.Release.{Contents}
use Rattle.lpis_register_rows.specs.Shapes.{AreShapesOf, Shape, shape_ids, parcel_shape as shape_of_parcel}
use Rattle.lpis_checker.specs.SoundMap.{IsInParcel, IsSoundMap, TurnsTell}
use Rattle.lpis_lineage_exact.specs.ExactLineage.{ShapesShareNothing, ShapesTurnOnce}
use Rattle.lpis_lineage_exact.specs.Shapes.{shape_named, shapes_in}

-- ---- the parcel of a shape
record Held (xs : List Parcel) (id : List ℕ) (m : List Member) : Type 0 where
  index : ℕ
  parcel : Parcel
  at : slice_get xs index ≡ Some parcel
  is_id : id ≡ parcel.id
  is_shape : parcel.polygon ≡ m

at-index : (xs : List Parcel) (k : ℕ) (s : Shape) → slice_get (map shape_of_parcel xs) k ≡ Some s → (x : Parcel) × (slice_get xs k ≡ Some x) × (shape_of_parcel x ≡ s)
at-index [] k s e = cc e
at-index (x ∷ xs) zero s e = (x, refl, same_Some (shape_of_parcel x) s e)
at-index (x ∷ xs) (suc k) s e = at-index xs k s e

held : (r : Contents) (shapes : List Shape) (id : List ℕ) (m : List Member) → IsPermutation (shapes_in r.parcels) shapes → shape_named shapes id ≡ Some m → Held r.parcels id m
held r shapes id m p e =
    let among = Contains-permutation shapes (shapes_in r.parcels) (id, m) (IsPermutation-sym (shapes_in r.parcels) shapes p) (Contains-from_lookup same-exact id m shapes e) in
    let x = at-index r.parcels among.0 (id, m) (slice_get-get_or (shapes_in r.parcels) among.0 (id, m) among.1 ∙ ap Some among.2) in
    record { index = among.0; parcel = x.0; at = x.1; is_id = ap (λ (s : Shape). s.0) (sym x.2); is_shape = ap (λ (s : Shape). s.1) x.2 }

-- the shapes of a sound map, in whatever order, turn once at most
pub turn_once : (r : Contents) (shapes : List Shape) → IsSoundMap r → IsPermutation (shapes_in r.parcels) shapes → ShapesTurnOnce (shape_named shapes)
turn_once r shapes s perm id m e = record { turns = λ p d. at p d }
  where
    h : Held r.parcels id m
    h = held r shapes id m perm e

    at : (p : RationalPoint) → pos 0 <ℤ p.d → IsOneOrNone (turns m p)
    at p d = subst (λ (x : List Member). IsOneOrNone (turns x p)) h.is_shape
        (all_at (λ (k : Parcel). TurnsTell (IsInParcel p k) (turns k.polygon p)) r.parcels h.index h.parcel h.at (s.turns.parcels p d)).0

-- no point lies in two shapes of a sound map, in whatever order they are
pub share_nothing : (r : Contents) (shapes : List Shape) → IsSoundMap r → IsPermutation (shapes_in r.parcels) shapes → ShapesShareNothing (shape_named shapes)
share_nothing r shapes s perm p d a b l k =
    let v = held r shapes a l.shape perm l.is in
    let w = held r shapes b k.shape perm k.is in
    let i = s.everywhere.one_parcel p d v.index w.index v.parcel w.parcel v.at w.at
    (subst (λ (x : List Member). Contains x p) (sym v.is_shape) l.inside) (subst (λ (x : List Member). Contains x p) (sym w.is_shape) k.inside) in
    v.is_id ∙ ap (λ (x : Parcel). x.id) (same_Some v.parcel w.parcel (sym v.at ∙ ap (λ (j : ℕ). slice_get r.parcels j) i ∙ w.at)) ∙ sym w.is_id

-- ---- a binary search of shapes that ascend by identifier
abbrev pub order : List ℕ → Shape → Ordering
order id s = slice_cmp nat_cmp s.0 id

distinct : (kept : List Shape) → IsAscending (shape_ids kept) → IsDistinct same_id (shape_ids kept)
distinct kept up = subst (λ (e : List ℕ → List ℕ → Bool). IsDistinct e (shape_ids kept)) (λ i a b. sym (same-by_order a b) i) (IsDistinct-from_sorted (slice_cmp nat_cmp) (shape_ids kept) up)

-- ---- shapes in another order
found-there : (xs ys : List Shape) (id : List ℕ) (m : List Member) → IsDistinct same_id (shape_ids ys) → IsPermutation xs ys → shape_named xs id ≡ Some m → shape_named ys id ≡ Some m
found-there xs ys id m apart p e = lookup-from_Contains nat_list_eq_equiv id m ys apart (Contains-permutation xs ys (id, m) p (Contains-from_lookup same-exact id m xs e))

same-option : {A : Type 0} (o p : Option A) → ((x : A) → o ≡ Some x → p ≡ Some x) → ((x : A) → p ≡ Some x → o ≡ Some x) → o ≡ p
same-option None None to from = refl
same-option None (Some x) to from = from x refl
same-option (Some x) p to from = sym (to x refl)

-- the shapes of parcels that ascend by identifier name the same as those in the order of the parcels
pub named-alike : (parcels : List Parcel) (shapes : List Shape) → AreShapesOf parcels shapes → shape_named shapes ≡ shape_named (shapes_in parcels)
named-alike parcels shapes are i id = same-option (shape_named shapes id) (shape_named (shapes_in parcels) id) (λ m. found-there shapes (shapes_in parcels) id m apart back)
    (λ m. found-there (shapes_in parcels) shapes id m (distinct shapes are.ascend) are.same) i
  where
    back : IsPermutation shapes (shapes_in parcels)
    back = IsPermutation-sym (shapes_in parcels) shapes are.same

    apart : IsDistinct same_id (shape_ids (shapes_in parcels))
    apart = IsDistinct-IsPermutation same_id same-sym (shape_ids shapes) (shape_ids (shapes_in parcels))
        (IsPermutation-map (λ (s : Shape). s.0) shapes (shapes_in parcels) back) (distinct shapes are.ascend)

-- ---- where a binary search finds an identifier
ids-length : (kept : List Shape) → length (shape_ids kept) ≡ length kept
ids-length [] = refl
ids-length (s ∷ ss) = ap suc (ids-length ss)

id-at : (kept : List Shape) (i : ℕ) (d : Shape) → i < length kept → get_or (shape_ids kept) i d.0 ≡ (get_or kept i d).0
id-at [] i d lt = absurd (omega (arith, lt))
id-at (s ∷ ss) zero d lt = refl
id-at (s ∷ ss) (suc i) d lt = id-at ss i d (omega (arith, lt))

not-below : (a b : List ℕ) → slice_cmp nat_cmp a b ≡ Less → is_lt (slice_cmp nat_cmp b a) ≡ false
not-below a b e = ap is_lt (nat_list_cmp_total.antisymm b a ∙ ap ordering_reverse e)

sorted : (kept : List Shape) → IsAscending (shape_ids kept) → IsSortedByKey (λ (s : Shape). s.0) (slice_cmp nat_cmp) kept
sorted kept up k d low lt =
    let n = ids-length kept in
    let less = Less-from_sorted (slice_cmp nat_cmp) (shape_ids kept) k (k + 1) d.0 up (omega arith) (omega (arith, n, lt)) in
    not-below (get_or kept k d).0 (get_or kept (k + 1) d).0 (ap₂ (λ (a b : List ℕ). slice_cmp nat_cmp a b) (sym (id-at kept k d (omega (arith, lt)))) (sym (id-at kept (k + 1) d lt)) ∙ less)

same-from-tie : (a b : List ℕ) → slice_cmp nat_cmp a b ≡ Equal → a ≡ b
same-from-tie a b e = same-exact a b (same-by_order a b ∙ ap is_eq e)

-- where shapes ascend by identifier, the one at an index that ties with an identifier is its shape
pub shape-found : (kept : List Shape) (id : List ℕ) (i : ℕ) (d : Shape) → IsAscending (shape_ids kept) → i < length kept → HoldsAt (λ y. order id y ≡ Equal) kept i
    → Some (get_or kept i d).1 ≡ shape_named kept id
shape-found kept id i d up lt tie =
    let s : Shape = get_or kept i d in
    let same : s.0 ≡ id = same-from-tie s.0 id (tie d) in
    sym (lookup-from_Contains nat_list_eq_equiv id s.1 kept (distinct kept up) (i, lt, get_or_default kept i (id, s.1) d lt ∙ ap (λ (k : List ℕ). (k, s.1)) same))

-- where shapes ascend, and are lower before the place that a search gives and higher from it on, none is the one named
pub shape-missing : (kept : List Shape) (id : List ℕ) (i : ℕ) → IsAscending (shape_ids kept)
    → (IsNonDecreasingBy (λ y. ordering_index (order id y)) kept → IsPartitionPoint (λ y. order id y ≡ Less) (λ y. order id y ≡ Greater) kept i) → None ≡ shape_named kept id
shape-missing kept id i up searched = sym (by (shape_named kept id) refl)
  where
    point : IsPartitionPoint (λ y. order id y ≡ Less) (λ y. order id y ≡ Greater) kept i
    point = searched (searchable_from_sorted nat_list_cmp_total (λ (s : Shape). s.0) kept id (sorted kept up))

    itself : (m : List Member) (w : IsAmong kept (id, m)) → order id (get_or kept w.0 (id, m)) ≡ Equal
    itself m w = ap (order id) w.2 ∙ tied_itself nat_list_cmp_total id

    less : Equal ≡ Less → ⊥
    less f = cc

    greater : Equal ≡ Greater → ⊥
    greater f = cc

    by_index : (k i : ℕ) → (k < i) ⊎ (i ≤ k)
    by_index k i = grind arith

    never : (m : List Member) → IsAmong kept (id, m) → ⊥
    never m w = elim (by_index w.0 i) [
      | inl l ↦ less (sym (itself m w) ∙ point.0 w.0 (id, m) (omega arith) l)
      | inr l ↦ greater (sym (itself m w) ∙ point.1 w.0 (id, m) l w.1)
    ]

    by : (o : Option (List Member)) → shape_named kept id ≡ o → o ≡ None
    by None e = refl
    by (Some m) e = absurd (never m (Contains-from_lookup same-exact id m kept e))
