-- Parcels at places among those of a release.
use Rattle.std.proofs.Common.{◌≡◌, ◌<◌, ◌∙◌, ◌++◌, ◌∷◌, ◌+◌, [], sym, ap, ap₂, subst, arith, ℕ, List, None, Some, get_or, length, map, take}
use Rattle.std.proofs.lemmas.List.{append_assoc, get_or-map, length-map, take_more}
use Rattle.std.proofs.lemmas.Option.{get_or_from_slice_get, slice_get-get_or, slice_get_within}
use Rattle.std.specs.List.{slice_get}
use Rattle.lpis_release.specs.declared.parcel.Parcel.{Parcel}
use Rattle.lpis_release.specs.Release.{Contents}
use Rattle.lpis_run_country.specs.private.Totals.{AreAt}

-- the parcel at a place within a list
pub parcel_at : (xs : List Parcel) (i : ℕ) → i < length xs → (k : Parcel) × (slice_get xs i ≡ Some k) × (k ≡ get_or xs i k)
parcel_at [] i lt = absurd (omega (arith, lt))
parcel_at (x ∷ xs) i lt =
    let at = slice_get-get_or (x ∷ xs) i x lt in
    let k = get_or (x ∷ xs) i x in
    (k, at, sym (get_or_from_slice_get (x ∷ xs) i k k at))

-- there are as many places as parcels
pub as_many_places : (xs : List Parcel) (places : List ℕ) (ks : List Parcel) → map (slice_get xs) places ≡ map Some ks → length places ≡ length ks
as_many_places xs places ks e = sym (length-map places (slice_get xs)) ∙ ap length e ∙ length-map ks Some

-- the parcel at a place
at_place : (xs : List Parcel) (places : List ℕ) (ks : List Parcel) (i d : ℕ) (k : Parcel) → map (slice_get xs) places ≡ map Some ks → i < length places
    → slice_get xs (get_or places i d) ≡ Some (get_or ks i k)
at_place xs places ks i d k e lt =
    let within : i < length ks = omega (arith, as_many_places xs places ks e, lt) in
    sym (get_or-map (slice_get xs) places i d None lt) ∙ ap (λ os. get_or os i None) e ∙ get_or-map Some ks i k None within

-- it is there
pub place_there : (xs : List Parcel) (places : List ℕ) (ks : List Parcel) (i d : ℕ) → map (slice_get xs) places ≡ map Some ks → i < length places → get_or places i d < length xs
place_there xs places [] i d e lt = let none = as_many_places xs places [] e in absurd (omega (arith, none, lt))
place_there xs places (k ∷ ks) i d e lt = slice_get_within xs (get_or places i d) (get_or (k ∷ ks) i k) (at_place xs places (k ∷ ks) i d k e lt)

-- the parcel that was found is the one of the list
pub same_place : (xs : List Parcel) (places : List ℕ) (ks : List Parcel) (i d : ℕ) (k : Parcel) → map (slice_get xs) places ≡ map Some ks → i < length places
    → slice_get xs (get_or places i d) ≡ Some k → k ≡ get_or ks i k
same_place xs places ks i d k e lt at = cc (sym at ∙ at_place xs places ks i d k e lt)

-- so there is one
pub parcel_there : (xs : List Parcel) (places : List ℕ) (ks : List Parcel) (i d : ℕ) → map (slice_get xs) places ≡ map Some ks → i < length places
    → (k : Parcel) × (slice_get xs (get_or places i d) ≡ Some k) × (k ≡ get_or ks i k)
parcel_there xs places [] i d e lt = let none = as_many_places xs places [] e in absurd (omega (arith, none, lt))
parcel_there xs places (k ∷ ks) i d e lt =
    let at = at_place xs places (k ∷ ks) i d k e lt in
    (get_or (k ∷ ks) i k, at, same_place xs places (k ∷ ks) i d (get_or (k ∷ ks) i k) e lt at)

-- the same places
pub same_places : (r : Contents) (a b : List ℕ) (ks : List Parcel) → a ≡ b → AreAt r b ks → AreAt r a ks
same_places r a b ks e h = subst (λ (x : List ℕ). AreAt r x ks) (sym e) h

-- a copy of the parcel at the next place behind others
pub copy_more : (before now new ks : List Parcel) (i : ℕ) (k c : Parcel) → now ≡ before ++ take i ks → new ≡ now ++ c ∷ [] → c ≡ k → i < length ks → k ≡ get_or ks i k
    → new ≡ before ++ take (i + 1) ks
copy_more before now new ks i k c are more copy lt is =
    more ∙ ap₂ (λ (xs : List Parcel) (x : Parcel). xs ++ x ∷ []) are (copy ∙ is) ∙ append_assoc before (take i ks) (get_or ks i k ∷ [])
    ∙ ap (λ (xs : List Parcel). before ++ xs) (sym (take_more ks i k lt))
