-- The parcel of an identifier, by its index.
use Rattle.std.proofs.Common.{◌≡◌, ◌∙◌, ◌≤◌, ◌<◌, ◌+◌, ℕ, zero, suc, List, [], ◌∷◌, Option, Some, None, Bool, cond, not, length, slice_get, refl, sym, ap, arith}
use Rattle.std.proofs.lemmas.Grind.{common_steps}
use Rattle.std.specs.List.{ItemBy, find, position, position_or_len}
use Rattle.std.specs.Option.{option_map}
use Rattle.std.proofs.lemmas.List.Folds.{find_at}
use Rattle.std.proofs.lemmas.Option.{slice_get-get_or, slice_get_past}
use Rattle.lpis_tables.specs.Ids.{same_id}
use Rattle.lpis_release.specs.declared.parcel.Parcel.{Parcel}
use Rattle.lpis_release.specs.Release.{Contents, parcel_ids, parcel_named}

abbrev has : List ℕ → Parcel → Bool
has id p = same_id id p.id

place : (p : List ℕ → Bool) (xs : List (List ℕ)) (i : ℕ) → position p xs ≡ Some i → position_or_len p xs ≡ i
place p xs i e = grind (arith, common_steps)

no-place : (p : List ℕ → Bool) (xs : List (List ℕ)) → position p xs ≡ None → length xs ≤ position_or_len p xs
no-place p xs e = grind (arith, common_steps)

by-ids : (id : List ℕ) (xs : List Parcel) → position_or_len (same_id id) (parcel_ids xs) ≡ position_or_len (has id) xs
by-ids id [] = refl
by-ids id (x ∷ xs) = ap (λ (n : ℕ). cond (not (same_id id x.id)) (1 + n) 0) (by-ids id xs)

as-many : (xs : List Parcel) → length (parcel_ids xs) ≡ length xs
as-many [] = refl
as-many (x ∷ xs) = ap suc (as-many xs)

item : {R X : Type 0} (now : R → X) (xs : List X) (i : ℕ) (r : Option R) → ItemBy now xs i i r → option_map now r ≡ slice_get xs i
item now xs i None l = sym (slice_get_past xs i l.3)
item now xs i (Some x) l = ap Some l.1 ∙ sym (slice_get-get_or xs i (now x) l.3.0)

-- what a list of parcels lends at the index of an identifier
pub parcel-found : {R : Type 0} (now : R → Parcel) (id : List ℕ) (xs : List Parcel) (c : Contents) (at : Option ℕ) (i : ℕ) (r : Option R) → xs ≡ c.parcels
    → at ≡ position (same_id id) (parcel_ids xs) → at ≡ Some i → ItemBy now xs i i r → option_map now r ≡ parcel_named c id
parcel-found now id xs c at i r same is found lent =
    item now xs i r lent ∙ ap (λ (k : ℕ). slice_get xs k) (sym (place (same_id id) (parcel_ids xs) i (sym is ∙ found)) ∙ by-ids id xs) ∙ sym (find_at (has id) xs)
    ∙ ap (λ (l : List Parcel). find (has id) l) same

-- where an identifier is not among those of the parcels, no parcel is named by it
pub parcel-missing : (id : List ℕ) (xs : List Parcel) (c : Contents) (at : Option ℕ) → xs ≡ c.parcels → at ≡ position (same_id id) (parcel_ids xs) → at ≡ None → None ≡ parcel_named c id
parcel-missing id xs c at same is missing =
    let past : length xs ≤ position_or_len (has id) xs = let h = no-place (same_id id) (parcel_ids xs) (sym is ∙ missing) in let s = as-many xs in let b = by-ids id xs in omega (arith, h, s, b) in
    sym (find_at (has id) xs ∙ slice_get_past xs (position_or_len (has id) xs) past) ∙ ap (λ (l : List Parcel). find (has id) l) same

-- the identifier at the index of a parcel is that of the parcel
pub id-at : (ps : List Parcel) (i : ℕ) (p : Parcel) → slice_get ps i ≡ Some p → slice_get (parcel_ids ps) i ≡ Some p.id
id-at [] i p e = cc e
id-at (q ∷ qs) zero p e = let is : q ≡ p = cc e in rw is refl
id-at (q ∷ qs) (suc i) p e = id-at qs i p e

-- at an index within the parcels stands an identifier
pub id-within : (ps : List Parcel) (i : ℕ) → i < length ps → (id : List ℕ) × (slice_get (parcel_ids ps) i ≡ Some id)
id-within [] i lt = absurd (omega arith)
id-within (q ∷ qs) zero lt = (q.id, refl)
id-within (q ∷ qs) (suc i) lt = id-within qs i (omega arith)

-- an index where an identifier stands is within the parcels
pub within-ids : (ps : List Parcel) (i : ℕ) (id : List ℕ) → slice_get (parcel_ids ps) i ≡ Some id → i < length ps
within-ids [] i id e = cc e
within-ids (q ∷ qs) zero id e = omega arith
within-ids (q ∷ qs) (suc i) id e = let lt = within-ids qs i id e in omega (arith, lt)
