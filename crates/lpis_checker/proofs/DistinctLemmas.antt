-- Parcels with equal identifiers are equal.
use Rattle.std.proofs.Common.{◌≡◌, ◌≢◌, ℕ, ◌<◌, List, [], Some, ◌⊎◌, inl, inr, ap, sym, ◌∙◌, arith, slice_get, AllPairs, option_map}
use Rattle.lpis_checker.proofs.Common.{cases_eq, cases_lt, slice_get_within, Parcel}
use Rattle.std.proofs.lemmas.Option.{get_or_from_slice_get, slice_get-map}
use Rattle.std.specs.List.{IsDistinct}
use Rattle.std.proofs.lemmas.Map.Made.{AllPairs-from_IsDistinct}
use Rattle.std.proofs.lemmas.Slice.Eq.{bytes_eq-Decides}
use Rattle.lpis_tables.specs.Ids.{same_id}
use Rattle.lpis_release.specs.Release.{parcel_ids}

id_at : (xs : List Parcel) (i : ℕ) (a : Parcel) → slice_get xs i ≡ Some a → slice_get (parcel_ids xs) i ≡ Some a.id
id_at xs i a e = slice_get-map (λ (p : Parcel). p.id) xs i ∙ ap (option_map (λ (p : Parcel). p.id)) e

-- where the identifiers of parcels are distinct, two indices whose parcels have one identifier are equal
pub same_index : (xs : List Parcel) → IsDistinct same_id (parcel_ids xs) → (i j : ℕ) (a b : Parcel) → slice_get xs i ≡ Some a → slice_get xs j ≡ Some b → a.id ≡ b.id → i ≡ j
same_index xs n i j a b e f s = elim (cases_eq i j) [ inl q ↦ q | inr q ↦ absurd (by (order q)) ]
  where
    pairs : AllPairs (λ x y. x ≢ y) (parcel_ids xs)
    pairs = AllPairs-from_IsDistinct bytes_eq-Decides (parcel_ids xs) n

    clash : (k m : ℕ) (x y : Parcel) → k < m → slice_get (parcel_ids xs) k ≡ Some x.id → slice_get (parcel_ids xs) m ≡ Some y.id → x.id ≡ y.id → ⊥
    clash k m x y l g h t = pairs k m [] l (slice_get_within (parcel_ids xs) m y.id h) (get_or_from_slice_get (parcel_ids xs) k x.id [] g ∙ t ∙ sym (get_or_from_slice_get (parcel_ids xs) m y.id [] h))

    order : i ≢ j → (i < j) ⊎ (j < i)
    order q = elim (cases_lt i j) [ inl l ↦ inl l | inr l ↦ inr (omega arith) ]

    by : (i < j) ⊎ (j < i) → ⊥
    by (inl l) = clash i j a b l (id_at xs i a e) (id_at xs j b f) s
    by (inr l) = clash j i b a l (id_at xs j b f) (id_at xs i a e) (sym s)
