-- Identifiers that are added one after the other.
use Rattle.std.proofs.Common.{◌≡◌, ℕ, ◌+◌, ◌<◌, ◌≤◌, List, [], ◌∷◌, length, drop, get_or, Bool, not, ◌||◌, cond, true, false, filter, refl, ap, sym, ◌∙◌, true≢false, is_eq, nat_cmp}
use Rattle.std.specs.List.{list_any}
use Rattle.std.specs.Cmp.Lexicographic.{bytes_decides, slice_cmp, texts_ties}
use Rattle.std.proofs.lemmas.List.{drop_all, drop_more, map-append}
use Rattle.std.proofs.lemmas.List.Folds.{list_any-append}
use Rattle.lpis_tables.specs.Ids.{has_id, same_id}
use Rattle.lpis_release.specs.declared.parcel.Parcel.{Parcel}
use Rattle.lpis_release.specs.Release.{Contents, parcel_ids}
use Rattle.lpis_country.specs.Country.{is_new, new_parcels, with_region}
use Rattle.lpis_country_seam.proofs.ListLemmas.{same-sym}

-- ---- a set whose order compares the bytes
-- an identifier is among others by the order of their bytes exactly where it is by their equality
pub has-by-order : (ids : List (List ℕ)) (q : List ℕ) → list_any (λ k. is_eq (slice_cmp nat_cmp q k)) ids ≡ has_id ids q
has-by-order [] q = refl
has-by-order (x ∷ xs) q = ap (λ (b : Bool). b || list_any (λ k. is_eq (slice_cmp nat_cmp q k)) xs) (sym (texts_ties q x)) ∙ ap (λ (b : Bool). same_id q x || b) (has-by-order xs q)

-- a set with one identifier more
pub add-by-order : (old new : List (List ℕ)) (id q : List ℕ)
    → list_any (λ k. is_eq (slice_cmp nat_cmp q k)) new ≡ cond (is_eq (slice_cmp nat_cmp id q)) true (list_any (λ k. is_eq (slice_cmp nat_cmp q k)) old)
    → has_id new q ≡ cond (same_id id q) true (has_id old q)
add-by-order old new id q u =
    sym (has-by-order new q) ∙ u ∙ ap (λ (b : Bool). cond b true (list_any (λ k. is_eq (slice_cmp nat_cmp q k)) old)) (sym (texts_ties id q))
    ∙ ap (λ (b : Bool). cond (same_id id q) true b) (has-by-order old q)

-- ---- identifiers that are added
one_on : (s m d t : Bool) → (m || (s || d)) ≡ t → (cond s true m || d) ≡ t
one_on true true d t h = h
one_on true false d t h = h
one_on false m d t h = h

none_left : (m t : Bool) → (m || false) ≡ t → m ≡ t
none_left true t h = h
none_left false t h = h

-- what was added and what is left to add
abbrev pub Adding : List (List ℕ) → List (List ℕ) → List Parcel → ℕ → Type 0
Adding ids more parcels i = (q : List ℕ) → (has_id more q || has_id (parcel_ids (drop i parcels)) q) ≡ (has_id ids q || has_id (parcel_ids parcels) q)

-- with the identifier of the next parcel added, what was added and what is left are still the same together
pub adding_more : (ids old new : List (List ℕ)) (parcels : List Parcel) (i : ℕ) (k : Parcel) → i < length parcels → k ≡ get_or parcels i k
    → ((q : List ℕ) → has_id new q ≡ cond (same_id k.id q) true (has_id old q)) → Adding ids old parcels i → Adding ids new parcels (i + 1)
adding_more ids old new parcels i k l e added h q =
    ap (λ (b : Bool). b || has_id (parcel_ids (drop (i + 1) parcels)) q) (added q)
    ∙ ap (λ (b : Bool). cond b true (has_id old q) || has_id (parcel_ids (drop (i + 1) parcels)) q) (same-sym k.id q)
    ∙ one_on (same_id q k.id) (has_id old q) (has_id (parcel_ids (drop (i + 1) parcels)) q) (has_id ids q || has_id (parcel_ids parcels) q)
    (sym (ap (λ (ps : List Parcel). has_id old q || has_id (parcel_ids ps) q) (drop_more parcels i k l ∙ ap (λ (x : Parcel). x ∷ drop (i + 1) parcels) (sym e))) ∙ h q)

-- past the last parcel the set has what it had at first and the identifiers of all parcels
pub adding_ends : (ids more : List (List ℕ)) (parcels : List Parcel) (i : ℕ) → length parcels ≤ i → Adding ids more parcels i → (q : List ℕ)
    → has_id more q ≡ (has_id ids q || has_id (parcel_ids parcels) q)
adding_ends ids more parcels i l h q = none_left (has_id more q) (has_id ids q || has_id (parcel_ids parcels) q)
    (sym (ap (λ (ps : List Parcel). has_id more q || has_id (parcel_ids ps) q) (drop_all i parcels l)) ∙ h q)

-- ---- the identifiers of a country with one region more
-- one that is among the country's is not lost with a parcel that is left out
step_or : (n b s f h : Bool) → (s ≡ true → n ≡ false → b ≡ true) → (b || f) ≡ (b || h) → (b || cond n (s || f) f) ≡ (b || (s || h))
step_or n true s f h left e = refl
step_or true false true f h left e = refl
step_or true false false f h left e = e
step_or false false true f h left e = absurd (true≢false (sym (left refl refl)))
step_or false false false f h left e = e

in_cond : (n : Bool) (q : List ℕ) (k : Parcel) (fs : List Parcel) → has_id (parcel_ids (cond n (k ∷ fs) fs)) q ≡ cond n (same_id q k.id || has_id (parcel_ids fs) q) (has_id (parcel_ids fs) q)
in_cond true q k fs = refl
in_cond false q k fs = refl

not_not : (b : Bool) → not b ≡ false → b ≡ true
not_not true e = refl
not_not false e = sym e

ids_fresh : (u : Contents) (q : List ℕ) (ps : List Parcel) → (has_id (parcel_ids u.parcels) q || has_id (parcel_ids (filter (λ (k : Parcel). is_new u k.id) ps)) q)
    ≡ (has_id (parcel_ids u.parcels) q || has_id (parcel_ids ps) q)
ids_fresh u q [] = refl
ids_fresh u q (k ∷ ps) =
    ap (λ (b : Bool). has_id (parcel_ids u.parcels) q || b) (in_cond (is_new u k.id) q k (filter (λ (x : Parcel). is_new u x.id) ps))
    ∙ step_or (is_new u k.id) (has_id (parcel_ids u.parcels) q) (same_id q k.id) (has_id (parcel_ids (filter (λ (x : Parcel). is_new u x.id) ps)) q) (has_id (parcel_ids ps) q) left (ids_fresh u q ps)
  where
    left : same_id q k.id ≡ true → is_new u k.id ≡ false → has_id (parcel_ids u.parcels) q ≡ true
    left s n = ap (has_id (parcel_ids u.parcels)) ((bytes_decides q k.id).0 s) ∙ not_not (has_id (parcel_ids u.parcels) k.id) n

-- the identifiers of a country with one region more are those that it had and those of the region
pub ids-next : (u r : Contents) (q : List ℕ) → has_id (parcel_ids (with_region u r).parcels) q ≡ (has_id (parcel_ids u.parcels) q || has_id (parcel_ids r.parcels) q)
ids-next u r q = ap (λ (ids : List (List ℕ)). has_id ids q) (map-append (λ (k : Parcel). k.id) u.parcels (new_parcels u r))
    ∙ list_any-append (same_id q) (parcel_ids u.parcels) (parcel_ids (new_parcels u r)) ∙ ids_fresh u q r.parcels
