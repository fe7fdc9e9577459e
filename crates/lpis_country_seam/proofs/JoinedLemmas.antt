-- Regions without a fault of the seam fit, each to the country of those before it.
use Rattle.std.proofs.Common.{◌≡◌, ℕ, ◌+◌, Bool, true, false, not, cond, ◌&&◌, ◌||◌, List, [], ◌∷◌, ◌++◌, length}
use Rattle.std.proofs.Common.{take, map, filter, flat_map, Option, None, Some, All, ap, ap₂, sym, refl, ◌∙◌, subst, arith}
use Rattle.std.specs.Prelude.{Contains as IsAmong}
use Rattle.std.specs.List.{find}
use Rattle.std.proofs.lemmas.List.Elements.{All-cons, All-nil, All-weaker, Contains-append_right}
use Rattle.std.proofs.lemmas.Option.{same_Some}
use Rattle.std.proofs.lemmas.Slice.Eq.{bytes_eq-Decides}
use Rattle.lpis_points.specs.declared.boxes.Box4.{Box4}
use Rattle.lpis_rings.specs.declared.polygon.Member.{Member}
use Rattle.lpis_tables.specs.declared.class.Class.{Class}
use Rattle.lpis_tables.specs.Ids.{has_id, same_id}
use Rattle.lpis_release.specs.declared.parcel.Parcel.{Parcel}
use Rattle.lpis_release.specs.Release.{Contents, parcel_ids, parcel_named, pieces_named}
use Rattle.lpis_checker.specs.SoundMap.{IsSoundMap}
use Rattle.lpis_country.specs.Country.{country_of, is_new}
use Rattle.lpis_country.specs.Tiling.{rectangles, frame, reaches}
use Rattle.lpis_country.specs.Tree.{Tree}
use Rattle.lpis_country.specs.Union.{IsDouble, IsUnion}
use Rattle.lpis_country.proofs.Shared.{FitsCountry, IsLate, IsThere, country_is_sound, country_is_union, has_among}
use Rattle.lpis_release.specs.Equality.{same_pieces, same_polygon, TestsFindEqualRows}
use Rattle.lpis_country_seam.specs.declared.fault.SeamFault.{SeamFault}
use Rattle.lpis_country_seam.specs.declared.fault.SeamFault.TheVariants.{At}
use Rattle.lpis_country_seam.specs.declared.fault.SeamCode.TheVariants.{Differs, Elsewhere, Lacks, Reused}
use Rattle.lpis_country_seam.specs.Faults.{seam_class_faults, earlier_faults, is_double, is_lacking, seam_row_faults, reached, reaches_at, reaches_later, reaches_own, seam_fault_if, seam_faults}
use Rattle.lpis_country_seam.specs.Open.{AreJoined}

-- ---- empty lists
first_nil : {A : Type 0} (xs ys : List A) → xs ++ ys ≡ [] → xs ≡ []
first_nil [] ys e = refl
first_nil (x ∷ xs) ys e = cc

second_nil : {A : Type 0} (xs ys : List A) → xs ++ ys ≡ [] → ys ≡ []
second_nil [] ys e = e
second_nil (x ∷ xs) ys e = absurd cc

all_nil : {A B : Type 0} (f : A → List B) (xs : List A) → flat_map f xs ≡ [] → All (λ x. f x ≡ []) xs
all_nil {A} f [] e = All-nil (λ (x : A). f x ≡ [])
all_nil {A} f (x ∷ xs) e = All-cons (λ (y : A). f y ≡ []) x xs (first_nil (f x) (flat_map f xs) e) (all_nil f xs (second_nil (f x) (flat_map f xs) e))

none_mapped : {A B : Type 0} (f : A → B) (xs : List A) → map f xs ≡ [] → xs ≡ []
none_mapped f [] e = refl
none_mapped f (x ∷ xs) e = absurd cc

none_left : {A : Type 0} (q : A → Bool) (xs : List A) → filter q xs ≡ [] → All (λ x. q x ≡ false) xs
none_left {A} q [] e = All-nil (λ (x : A). q x ≡ false)
none_left {A} q (x ∷ xs) e = by (q x) refl e (λ f. none_left q xs f)
  where
    by : (b : Bool) → q x ≡ b → cond b (x ∷ filter q xs) (filter q xs) ≡ [] → (filter q xs ≡ [] → All (λ y. q y ≡ false) xs) → All (λ y. q y ≡ false) (x ∷ xs)
    by true t f rec = absurd cc
    by false t f rec = All-cons (λ (y : A). q y ≡ false) x xs t (rec f)

no_fault : (b : Bool) (f : SeamFault) → seam_fault_if (not b) f ≡ [] → b ≡ true
no_fault true f e = refl
no_fault false f e = absurd cc

none_reached : (i : ℕ) (ts : List Box4) (k : Parcel) → reached i ts k ≡ [] → All (λ (t : Box4). reaches k t ≡ false) ts
none_reached i [] k e = All-nil (λ (t : Box4). reaches k t ≡ false)
none_reached i (t ∷ ts) k e = by (reaches k t) refl e (λ f. none_reached (i + 1) ts k f)
  where
    by : (b : Bool) → reaches k t ≡ b → cond b (i ∷ reached (i + 1) ts k) (reached (i + 1) ts k) ≡ [] → (reached (i + 1) ts k ≡ [] → All (λ (u : Box4). reaches k u ≡ false) ts)
        → All (λ (u : Box4). reaches k u ≡ false) (t ∷ ts)
    by true h f rec = absurd cc
    by false h f rec = All-cons (λ (u : Box4). reaches k u ≡ false) t ts h (rec f)

-- ---- the parcel of an identifier
at_first : (ks : List Parcel) (k m : Parcel) → k ≡ m → IsAmong (k ∷ ks) m
at_first ks k m e = (0, omega arith, e)

found : (ks : List Parcel) (id : List ℕ) (m : Parcel) → find (λ (p : Parcel). same_id id p.id) ks ≡ Some m → IsAmong ks m × (id ≡ m.id)
found [] id m e = absurd cc
found (k ∷ ks) id m e = by (same_id id k.id) refl e (λ f. found ks id m f)
  where
    by : (b : Bool) → same_id id k.id ≡ b → cond b (Some k) (find (λ (p : Parcel). same_id id p.id) ks) ≡ Some m
        → (find (λ (p : Parcel). same_id id p.id) ks ≡ Some m → IsAmong ks m × (id ≡ m.id)) → IsAmong (k ∷ ks) m × (id ≡ m.id)
    by true t f rec = (at_first ks k m (same_Some k m f), (bytes_eq-Decides id k.id).0 t ∙ ap (λ (p : Parcel). p.id) (same_Some k m f))
    by false t f rec = (Contains-append_right (k ∷ []) ks m (rec f).0, (rec f).1)

not_found : (ks : List Parcel) (id : List ℕ) → find (λ (p : Parcel). same_id id p.id) ks ≡ None → has_id (parcel_ids ks) id ≡ false
not_found [] id e = refl
not_found (k ∷ ks) id e = by (same_id id k.id) refl e (λ f. not_found ks id f)
  where
    by : (b : Bool) → same_id id k.id ≡ b → cond b (Some k) (find (λ (p : Parcel). same_id id p.id) ks) ≡ None
        → (find (λ (p : Parcel). same_id id p.id) ks ≡ None → has_id (parcel_ids ks) id ≡ false) → (same_id id k.id || has_id (parcel_ids ks) id) ≡ false
    by true t f rec = absurd cc
    by false t f rec = ap (λ (b : Bool). b || has_id (parcel_ids ks) id) t ∙ rec f

clash : (b : Bool) → b ≡ true → b ≡ false → ⊥
clash b e f = cc

untrue : (b : Bool) → not b ≡ false → b ≡ true
untrue true e = refl
untrue false e = absurd (clash true refl e)

both : (a b : Bool) → (a && b) ≡ true → (a ≡ true) × (b ≡ true)
both true true e = (refl, refl)
both true false e = absurd cc
both false b e = absurd cc

one : (k m : Parcel) → k.id ≡ m.id → m.polygon ≡ k.polygon → m ≡ k
one k m e f = ap₂ parcel (sym e) f
  where
    parcel : List ℕ → List Member → Parcel
    parcel i ms = record { id = i; polygon = ms }

-- a row that was there is the same
row_same : TestsFindEqualRows → (tiles : List Box4) (n : ℕ) (u r : Contents) (k m : Parcel) → earlier_faults tiles n u r k (Some m) ≡ [] → IsAmong u.parcels m → k.id ≡ m.id → IsDouble u r k
row_same tell tiles n u r k m e h i = by (reaches_later tiles n m) refl e
  where
    by : (b : Bool) → reaches_later tiles n m ≡ b → cond b (seam_fault_if (not (is_double u m r k)) (At Differs k.id n)) (At Reused k.id n ∷ []) ≡ [] → IsDouble u r k
    by false t f = absurd cc
    by true t f =
        let d = both (same_polygon m.polygon k.polygon) (same_pieces (pieces_named u m.id) (pieces_named r k.id)) (no_fault (is_double u m r k) (At Differs k.id n) f) in
        let p = (tell.polygons m.polygon k.polygon).0 d.0 in
        record {
          row = subst (IsAmong u.parcels) (one k m i p) h;
          pieces = ap (pieces_named u) i ∙ (tell.pieces (pieces_named u m.id) (pieces_named r k.id)).0 d.1;
        }

-- ---- a region without a fault
row_faultless : (tiles : List Box4) (n : ℕ) (u r : Contents) (k : Parcel) → seam_row_faults tiles n u r k ≡ [] → earlier_faults tiles n u r k (parcel_named u k.id) ≡ []
row_faultless tiles n u r k e = second_nil (seam_fault_if (not (reaches_own tiles n k)) (At Elsewhere k.id n)) (earlier_faults tiles n u r k (parcel_named u k.id)) e

same_one : TestsFindEqualRows → (tiles : List Box4) (n : ℕ) (u r : Contents) (k : Parcel) → seam_row_faults tiles n u r k ≡ [] → is_new u k.id ≡ false → IsDouble u r k
same_one tell tiles n u r k e o = by (parcel_named u k.id) refl (row_faultless tiles n u r k e)
  where
    by : (w : Option Parcel) → parcel_named u k.id ≡ w → earlier_faults tiles n u r k w ≡ [] → IsDouble u r k
    by None f g = absurd (clash (has_id (parcel_ids u.parcels) k.id) (untrue (has_id (parcel_ids u.parcels) k.id) o) (not_found u.parcels k.id f))
    by (Some m) f g = let h = found u.parcels k.id m f in row_same tell tiles n u r k m g h.0 h.1

late_one : (tiles : List Box4) (n : ℕ) (u r : Contents) (k : Parcel) → seam_row_faults tiles n u r k ≡ [] → IsLate tiles n u k
late_one tiles n u r k e o = by (parcel_named u k.id) refl (row_faultless tiles n u r k e)
  where
    by : (w : Option Parcel) → parcel_named u k.id ≡ w → earlier_faults tiles n u r k w ≡ [] → All (λ (t : Box4). reaches k t ≡ false) (take n tiles)
    by None f g = none_reached 0 (take n tiles) k (none_mapped (At Lacks k.id) (reached 0 (take n tiles) k) g)
    by (Some m) f g = let h = found u.parcels k.id m f in absurd (clash (is_new u k.id) o (ap not (ap (has_id (parcel_ids u.parcels)) h.1 ∙ has_among u.parcels m h.0)))

there_one : (tiles : List Box4) (n : ℕ) (r : Contents) (k : Parcel) → is_lacking tiles n r k ≡ false → IsThere tiles n r k
there_one tiles n r k e t at h = by (has_id (parcel_ids r.parcels) k.id) refl
  where
    by : (b : Bool) → has_id (parcel_ids r.parcels) k.id ≡ b → b ≡ true
    by true f = refl
    by false f = absurd (clash (is_lacking tiles n r k) (ap (λ (b : Bool). b && not (has_id (parcel_ids r.parcels) k.id)) (ap (reaches_at k) at ∙ h) ∙ ap not f) e)

fits : TestsFindEqualRows → (tiles : List Box4) (classes : List Class) (done : List Contents) (r : Contents) → seam_faults tiles classes done r ≡ []
    → FitsCountry tiles (length done) (country_of classes done) r
fits tell tiles classes done r e = record {
  same = All-weaker (IsFaultless) (λ (k : Parcel). is_new u k.id ≡ false → IsDouble u r k) (λ k f. same_one tell tiles n u r k f) r.parcels rows;
  new = All-weaker IsFaultless (IsLate tiles n u) (λ k f. late_one tiles n u r k f) r.parcels rows;
  none_lacks = All-weaker (λ (k : Parcel). is_lacking tiles n r k ≡ false) (IsThere tiles n r) (there_one tiles n r) u.parcels
      (none_left (is_lacking tiles n r) u.parcels (none_mapped (λ (k : Parcel). At Lacks k.id n) (filter (is_lacking tiles n r) u.parcels)
      (second_nil (flat_map (seam_row_faults tiles n u r) r.parcels) _ rest)));
}
  where
    n : ℕ
    n = length done

    u : Contents
    u = country_of classes done

    IsFaultless : Parcel → Type 0
    IsFaultless k = seam_row_faults tiles n u r k ≡ []

    rest : flat_map (seam_row_faults tiles n u r) r.parcels ++ map (λ (k : Parcel). At Lacks k.id n) (filter (is_lacking tiles n r) u.parcels) ≡ []
    rest = second_nil (seam_class_faults 1 r.classes classes) _ e

    rows : All IsFaultless r.parcels
    rows = all_nil (seam_row_faults tiles n u r) r.parcels (first_nil (flat_map (seam_row_faults tiles n u r) r.parcels) _ rest)

-- sound regions without a fault of the seam, one a tile, make up a sound country
pub joined_is_sound : TestsFindEqualRows → (tiling : Tree) (classes : List Class) (regions : List Contents) → AreJoined (rectangles tiling frame) classes regions → All IsSoundMap regions
    → length regions ≡ length (rectangles tiling frame) → IsSoundMap (country_of classes regions)
joined_is_sound tell tiling classes regions j s e =
    country_is_sound tiling classes regions j.regions_are s j.classes_are (λ before r after f. fits tell (rectangles tiling frame) classes before r (j.faultless before r after f)) e

-- regions without a fault of the seam make up their union
pub joined_is_union : TestsFindEqualRows → (tiles : List Box4) (classes : List Class) (regions : List Contents) → AreJoined tiles classes regions → IsUnion regions (country_of classes regions)
joined_is_union tell tiles classes regions j =
    country_is_union tiles classes regions j.regions_are j.classes_are (λ before r after f. fits tell tiles classes before r (j.faultless before r after f))
