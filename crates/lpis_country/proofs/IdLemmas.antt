-- Parcels and their identifiers.
use Rattle.std.proofs.Common.{◌≡◌, ℕ, zero, suc, ◌||◌, Bool, true, false, cond, ◌++◌, List, [], ◌∷◌, Some, All, filter, ap, sym, refl, ◌∙◌, slice_get, option_map}
use Rattle.std.specs.Prelude.{Contains as IsAmong}
use Rattle.std.specs.List.{IsDistinct}
use Rattle.std.proofs.lemmas.Option.{none-some, slice_get-map, same_Some}
use Rattle.std.proofs.lemmas.List.Elements.{All-append, All-from_recursion, All-filter, All-head, All-map, All-tail, recursion_from_All}
use Rattle.std.proofs.lemmas.Map.Keys.{IsDistinct-head, IsDistinct-tail, IsDistinct-cons, any_passes_from_place}
use Rattle.std.proofs.lemmas.Slice.Eq.{bytes_eq-Decides}
use Rattle.lpis_tables.specs.Ids.{has_id, same_id}
use Rattle.lpis_release.specs.declared.parcel.Parcel.{Parcel}
use Rattle.lpis_release.specs.Release.{parcel_ids}
use Rattle.lpis_edge_sums.proofs.Shared.{Found, all_at, all_from}
use Rattle.lpis_country.proofs.ListLemmas.{not_both, place_of_item}

-- the identifier at a place is that of the parcel at this place
pub id_at : (xs : List Parcel) (i : ℕ) (a : Parcel) → slice_get xs i ≡ Some a → slice_get (parcel_ids xs) i ≡ Some a.id
id_at xs i a e = slice_get-map (λ (p : Parcel). p.id) xs i ∙ ap (option_map (λ (p : Parcel). p.id)) e

-- no other parcel of the list has the first one's identifier
pub first_alone : (x : Parcel) (xs : List Parcel) → IsDistinct same_id (parcel_ids (x ∷ xs)) → (i : ℕ) (k : Parcel) → slice_get xs i ≡ Some k → same_id x.id k.id ≡ false
first_alone x xs n i k e =
    all_at (λ (y : List ℕ). same_id x.id y ≡ false) (parcel_ids xs) i k.id (id_at xs i k e)
    (All-from_recursion (λ (y : List ℕ). same_id x.id y ≡ false) (parcel_ids xs) (IsDistinct-head same_id x.id (parcel_ids xs) n))

-- parcels of one identifier are one row
pub same_index : (xs : List Parcel) → IsDistinct same_id (parcel_ids xs) → (i j : ℕ) (a b : Parcel) → slice_get xs i ≡ Some a → slice_get xs j ≡ Some b → a.id ≡ b.id → i ≡ j
same_index [] n i j a b e f s = absurd (none-some a e)
same_index (x ∷ xs) n zero zero a b e f s = refl
same_index (x ∷ xs) n zero (suc j) a b e f s = absurd (not_both (same_id x.id b.id) ((bytes_eq-Decides x.id b.id).1 (ap (λ (k : Parcel). k.id) (same_Some x a e) ∙ s)) (first_alone x xs n j b f))
same_index (x ∷ xs) n (suc i) zero a b e f s = absurd (not_both (same_id x.id a.id) ((bytes_eq-Decides x.id a.id).1 (ap (λ (k : Parcel). k.id) (same_Some x b f) ∙ sym s)) (first_alone x xs n i a e))
same_index (x ∷ xs) n (suc i) (suc j) a b e f s = ap suc (same_index xs (IsDistinct-tail same_id x.id (parcel_ids xs) n) i j a b e f s)

-- where no identifier stands twice, parcels of one identifier are equal
pub same_parcel : (xs : List Parcel) → IsDistinct same_id (parcel_ids xs) → (a b : Parcel) → IsAmong xs a → IsAmong xs b → a.id ≡ b.id → a ≡ b
same_parcel xs n a b h k s =
    let v = place_of_item xs a h in
    let w = place_of_item xs b k in
    same_Some a b (sym v.at ∙ ap (slice_get xs) (same_index xs n v.index w.index a b v.at w.at s) ∙ w.at)

-- parcels have the identifier of each of them
pub has_at : (xs : List Parcel) (i : ℕ) (k : Parcel) (id : List ℕ) → slice_get xs i ≡ Some k → id ≡ k.id → has_id (parcel_ids xs) id ≡ true
has_at xs i k id e s = any_passes_from_place (same_id id) (parcel_ids xs) i k.id (id_at xs i k e) ((bytes_eq-Decides id k.id).1 s)

-- the identifier of each parcel of a list is among those of the list
pub has_among : (xs : List Parcel) (k : Parcel) → IsAmong xs k → has_id (parcel_ids xs) k.id ≡ true
has_among xs k h = let p = place_of_item xs k h in has_at xs p.index k k.id p.at refl

-- an identifier among those of parcels is that of one of them
pub id_found : (xs : List Parcel) (id : List ℕ) → has_id (parcel_ids xs) id ≡ true → Found (λ (k : Parcel). id ≡ k.id) xs
id_found [] id e = absurd cc
id_found (x ∷ xs) id e = by (same_id id x.id) refl e (λ f. id_found xs id f)
  where
    by : (b : Bool) → same_id id x.id ≡ b → (b || has_id (parcel_ids xs) id) ≡ true → (has_id (parcel_ids xs) id ≡ true → Found (λ (k : Parcel). id ≡ k.id) xs)
        → Found (λ (k : Parcel). id ≡ k.id) (x ∷ xs)
    by true t e rec = record { index = 0; item = x; at = refl; has = (bytes_eq-Decides id x.id).0 t }
    by false t e rec = let f = rec e in record { index = suc f.index; item = f.item; at = f.at; has = f.has }

-- ---- lists of which no identifier stands twice
-- two lists without an identifier in common, and none twice in either, have none twice together
pub distinct_append : (xs ys : List (List ℕ)) → IsDistinct same_id xs → IsDistinct same_id ys → All (λ (x : List ℕ). All (λ (y : List ℕ). same_id x y ≡ false) ys) xs → IsDistinct same_id (xs ++ ys)
distinct_append [] ys h k n = k
distinct_append (x ∷ xs) ys h k n =
    let P : List ℕ → Type 0 = λ y. same_id x y ≡ false in
    let Q : List ℕ → Type 0 = λ v. All (λ (y : List ℕ). same_id v y ≡ false) ys in
    IsDistinct-cons same_id x (xs ++ ys)
    (recursion_from_All P (xs ++ ys) (All-append P xs ys (All-from_recursion P xs (IsDistinct-head same_id x xs h)) (All-head Q x xs n)))
    (distinct_append xs ys (IsDistinct-tail same_id x xs h) k (All-tail Q x xs n))

-- where no identifier of parcels stands twice, none does among those that a filter leaves
pub distinct_filter : (q : Parcel → Bool) (xs : List Parcel) → IsDistinct same_id (parcel_ids xs) → IsDistinct same_id (parcel_ids (filter q xs))
distinct_filter q [] h = h
distinct_filter q (x ∷ xs) h = by (q x) (distinct_filter q xs (IsDistinct-tail same_id x.id (parcel_ids xs) h))
  where
    all : All (λ (k : Parcel). same_id x.id k.id ≡ false) xs
    all = all_from (λ (k : Parcel). same_id x.id k.id ≡ false) xs (first_alone x xs h)

    by : (b : Bool) → IsDistinct same_id (parcel_ids (filter q xs)) → IsDistinct same_id (parcel_ids (cond b (x ∷ filter q xs) (filter q xs)))
    by true r =
        IsDistinct-cons same_id x.id (parcel_ids (filter q xs))
        (recursion_from_All (λ (y : List ℕ). same_id x.id y ≡ false) (parcel_ids (filter q xs))
        (All-map (λ (y : List ℕ). same_id x.id y ≡ false) (λ (k : Parcel). k.id) (filter q xs) (All-filter q (λ (k : Parcel). same_id x.id k.id ≡ false) xs all))) r
    by false r = r
