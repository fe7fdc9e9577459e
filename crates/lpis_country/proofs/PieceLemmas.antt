-- The pieces of all parcels of a region are its pieces.
use Rattle.std.proofs.Common.{◌≡◌, ℕ, zero, suc, ◌+◌, Bool, true, false, not, cond, List, [], ◌∷◌, length, filter, sum_by, Some, All, ap, ap₂, sym, refl, ◌∙◌, IsTrue, arith}
use Rattle.std.specs.List.{slice_get, IsDistinct}
use Rattle.std.proofs.lemmas.List.Elements.{All-head, All-tail}
use Rattle.std.proofs.lemmas.List.Sums.{sum_by-cons}
use Rattle.std.proofs.lemmas.Map.Keys.{IsDistinct-tail}
use Rattle.std.proofs.lemmas.Option.{none-some, same_Some}
use Rattle.std.proofs.lemmas.Slice.Eq.{bytes_eq-Decides}
use Rattle.lpis_tables.specs.declared.piece.Piece.{Piece}
use Rattle.lpis_tables.specs.Ids.{same_id}
use Rattle.lpis_release.specs.declared.parcel.Parcel.{Parcel}
use Rattle.lpis_release.specs.Release.{Contents, names_parcel, parcel_ids, pieces_named}
use Rattle.lpis_edge_sums.proofs.Shared.{all_at, all_from, any_found, filter_kept, found_any}
use Rattle.lpis_country.specs.Country.{IsRegion}
use Rattle.lpis_country.proofs.ListLemmas.{not_both, filter_both}
use Rattle.lpis_country.proofs.IdLemmas.{first_alone}
use Rattle.lpis_country.proofs.CountryLemmas.{NamedIn, not_new}

-- what a test lets through and what it does not
parted : (q : Piece → Bool) (xs : List Piece) → length (filter q xs) + length (filter (λ x. not (q x)) xs) ≡ length xs
parted q [] = refl
parted q (x ∷ xs) = by (q x) (parted q xs)
  where
    by : (b : Bool) → length (filter q xs) + length (filter (λ y. not (q y)) xs) ≡ length xs
        → length (cond b (x ∷ filter q xs) (filter q xs)) + length (cond (not b) (x ∷ filter (λ y. not (q y)) xs) (filter (λ y. not (q y)) xs)) ≡ suc (length xs)
    by true e = omega (arith, e)
    by false e = omega (arith, e)

sum-same : (f g : Parcel → ℕ) (ks : List Parcel) → All (λ k. f k ≡ g k) ks → sum_by f ks ≡ sum_by g ks
sum-same f g [] h = refl
sum-same f g (k ∷ ks) h = sum_by-cons f k ks ∙ ap₂ (λ (m n : ℕ). m + n) (All-head (λ m. f m ≡ g m) k ks h) (sum-same f g ks (All-tail (λ m. f m ≡ g m) k ks h)) ∙ sym (sum_by-cons g k ks)

pieces_of_all : (ks : List Parcel) (xs : List Piece) → IsDistinct same_id (parcel_ids ks) → All (NamedIn ks) xs → sum_by (λ (k : Parcel). length (filter (names_parcel k.id) xs)) ks ≡ length xs
pieces_of_all [] [] d n = refl
pieces_of_all [] (x ∷ xs) d n = let f = any_found (λ (k : Parcel). IsTrue (names_parcel k.id x)) [] (All-head (NamedIn []) x xs n) in absurd (none-some f.item f.at)
pieces_of_all (k ∷ ks) xs d n =
    sum_by-cons (λ (m : Parcel). length (filter (names_parcel m.id) xs)) k ks
    ∙ ap (λ (c : ℕ). length (filter (names_parcel k.id) xs) + c)
    (sum-same (λ (m : Parcel). length (filter (names_parcel m.id) xs)) (λ (m : Parcel). length (filter (names_parcel m.id) others)) ks (all_from _ ks (λ i m e. ap length (sym (kept i m e))))
    ∙ pieces_of_all ks others (IsDistinct-tail same_id k.id (parcel_ids ks) d) (all_from (NamedIn ks) others named))
    ∙ parted (names_parcel k.id) xs
  where
    others : List Piece
    others = filter (λ (x : Piece). not (names_parcel k.id x)) xs

    apart : (i : ℕ) (m : Parcel) → slice_get ks i ≡ Some m → same_id k.id m.id ≡ false
    apart = first_alone k ks d

    kept : (i : ℕ) (m : Parcel) → slice_get ks i ≡ Some m → filter (names_parcel m.id) others ≡ filter (names_parcel m.id) xs
    kept i m e = filter_both (names_parcel m.id) (λ (x : Piece). not (names_parcel k.id x)) (λ x t. by x t (names_parcel k.id x) refl) xs
      where
        by : (x : Piece) → names_parcel m.id x ≡ true → (b : Bool) → names_parcel k.id x ≡ b → not (names_parcel k.id x) ≡ true
        by x t true f = absurd (not_both (same_id k.id m.id) ((bytes_eq-Decides k.id m.id).1 ((bytes_eq-Decides k.id x.parcel).0 f ∙ sym ((bytes_eq-Decides m.id x.parcel).0 t))) (apart i m e))
        by x t false f = ap not f

    named : (i : ℕ) (x : Piece) → slice_get others i ≡ Some x → NamedIn ks x
    named i x e =
        let w = filter_kept (λ (y : Piece). not (names_parcel k.id y)) xs i x e in
        let P : Parcel → Type 0 = λ m. IsTrue (names_parcel m.id x) in
        let f = any_found P (k ∷ ks) (all_at (NamedIn (k ∷ ks)) xs w.index x w.at n) in
        by w.passes f.index f.item f.at f.has
      where
        by : not (names_parcel k.id x) ≡ true → (j : ℕ) (m : Parcel) → slice_get (k ∷ ks) j ≡ Some m → names_parcel m.id x ≡ true → NamedIn ks x
        by t zero m g h = absurd (not_both (names_parcel k.id x) (ap (λ (z : Parcel). names_parcel z.id x) (same_Some k m g) ∙ h) (not_new (names_parcel k.id x) t))
        by t (suc j) m g h = found_any (λ (z : Parcel). IsTrue (names_parcel z.id x)) ks (record { index = j; item = m; at = g; has = h })

-- the numbers of pieces of the parcels of a region add up to the number of its pieces
pub pieces_add : (r : Contents) → IsRegion r → sum_by (λ (k : Parcel). length (pieces_named r k.id)) r.parcels ≡ length r.pieces
pieces_add r g = pieces_of_all r.parcels r.pieces g.distinct g.named
