-- The first fault of a part is the first of the whole.
use Rattle.std.proofs.Common.{◌≡◌, ◌+◌, ◌<◌, ℕ, zero, suc, Bool, true, false, not, cond, ◌&&◌, ◌++◌, List, [], ◌∷◌, map, filter, flat_map, take, drop, length, get_or, Option, None, Some, is_some}
use Rattle.std.proofs.Common.{◌⊎◌, inl, inr, refl, ap, sym, ◌∙◌, subst, arith, append-nil}
use Rattle.std.specs.List.{slice_get}
use Rattle.std.specs.Option.{option_map}
use Rattle.std.proofs.lemmas.List.{drop_more, map-append}
use Rattle.std.proofs.lemmas.List.Elements.{filter_more}
use Rattle.std.proofs.lemmas.Option.{slice_get-get_or}
use Rattle.lpis_points.specs.declared.boxes.Box4.{Box4}
use Rattle.lpis_tables.specs.declared.class.Class.{Class}
use Rattle.lpis_tables.specs.Ids.{has_id}
use Rattle.lpis_release.specs.declared.parcel.Parcel.{Parcel}
use Rattle.lpis_release.specs.Release.{Contents, parcel_ids, parcel_named}
use Rattle.lpis_country_seam.specs.declared.kept.KeptRow.{KeptRow}
use Rattle.lpis_country_seam.specs.declared.fault.SeamCode.TheVariants.{Elsewhere, Lacks}
use Rattle.lpis_country_seam.specs.declared.fault.SeamFault.{SeamFault}
use Rattle.lpis_country_seam.specs.declared.fault.SeamFault.TheVariants.{Memory, Classes, At}
use Rattle.lpis_country_seam.specs.Faults.{IsFirstSeamFault, reached, reaches_own, seam_class_faults, seam_fault_if}
use Rattle.lpis_country_seam.specs.private.Testing.{fresh_faults, known_faults, row_named, tested_row}
use Rattle.lpis_country_seam.proofs.ListLemmas.{has-found, head-is, no-head}

-- the fault is the first of these, or reports that memory ran out
abbrev pub Told : List SeamFault → SeamFault → Type 0
Told fs f = (f ≡ Memory) ⊎ IsFirstSeamFault fs f

-- a fault that is reported of some faults is reported of them with others after them
pub told-left : (fs gs : List SeamFault) (f : SeamFault) → Told fs f → Told (fs ++ gs) f
told-left fs gs f (inl e) = inl e
told-left fs gs f (inr h) = inr (h.0 ++ gs, ap (λ (hs : List SeamFault). hs ++ gs) h.1)

-- a fault that is reported of some faults is reported of them with an empty list before them
pub told-right : (fs gs : List SeamFault) (f : SeamFault) → fs ≡ [] → Told gs f → Told (fs ++ gs) f
told-right fs gs f e h = subst (λ (hs : List SeamFault). Told (hs ++ gs) f) (sym e) h

-- a fault that is reported of some faults is reported of an equal list
pub told-alike : (fs gs : List SeamFault) (f : SeamFault) → fs ≡ gs → Told gs f → Told fs f
told-alike fs gs f e h = subst (λ (hs : List SeamFault). Told hs f) (sym e) h

-- the item at a place is the first of those from it on
rest-at : {A : Type 0} (xs : List A) (k : ℕ) → k < length xs → (x : A) × (drop k xs ≡ x ∷ drop (suc k) xs)
rest-at [] k l = absurd (omega arith)
rest-at (x ∷ xs) zero l = (x, refl)
rest-at (x ∷ xs) (suc k) l = rest-at xs k (omega arith)

-- ---- classes
no-length : {A : Type 0} (xs : List A) → length xs ≡ 0 → xs ≡ []
no-length [] e = refl
no-length (x ∷ xs) e = absurd (omega (arith, e))

-- where the other table of classes ends before a row, and no fault came before, this row is the first fault
pub classes-short : (own all rest : List Class) (k : ℕ) → seam_class_faults 1 own all ≡ seam_class_faults (k + 1) (drop k own) rest → k < length own → length rest ≡ 0
    → Told (seam_class_faults 1 own all) (Classes (k + 1))
classes-short own all rest k e l n =
    let r = rest-at own k l in
    inr ([], e ∙ ap (seam_class_faults (k + 1) (drop k own)) (no-length rest n) ∙ ap (λ (xs : List Class). seam_class_faults (k + 1) xs []) r.1)

-- ---- one row
-- a new parcel's first fault is that the first earlier tile that its box meets lacks it
pub fresh-first : (tiles : List Box4) (n : ℕ) (k : Parcel) (region : ℕ) (f : SeamFault) → Some region ≡ slice_get (reached 0 (take n tiles) k) 0 → f ≡ At Lacks k.id region
    → Told (fresh_faults tiles n k) f
fresh-first tiles n k region f e g =
    let h = head-is (reached 0 (take n tiles) k) region (sym e) in
    inr (map (At Lacks k.id) h.0, ap (map (At Lacks k.id)) h.1 ∙ ap (λ (x : SeamFault). x ∷ map (At Lacks k.id) h.0) (sym g))

-- a new parcel whose box meets no tile before is lacking in none of them
pub fresh-none : (tiles : List Box4) (n : ℕ) (k : Parcel) → None ≡ slice_get (reached 0 (take n tiles) k) 0 → fresh_faults tiles n k ≡ []
fresh-none tiles n k e = ap (map (At Lacks k.id)) (no-head (reached 0 (take n tiles) k) (sym e))

-- where a parcel's box does not meet the region's own tile, this is the first fault of its row
pub elsewhere-is-first : (tiles : List Box4) (n : ℕ) (ids : List (List ℕ)) (kept : List KeptRow) (r : Contents) (k : Parcel) (f : SeamFault) → reaches_own tiles n k ≡ false → f ≡ At Elsewhere k.id n
    → Told (tested_row tiles n ids kept r k) f
elsewhere-is-first tiles n ids kept r k f e g = told-alike (tested_row tiles n ids kept r k) (f ∷ more) f
    (ap (λ (b : Bool). seam_fault_if (not b) (At Elsewhere k.id n) ++ more) e ∙ ap (λ (x : SeamFault). x ∷ more) (sym g)) (inr (more, refl))
  where
    more : List SeamFault
    more = cond (has_id ids k.id) (known_faults tiles n r k (row_named kept k.id)) (fresh_faults tiles n k)

not-not : (b : Bool) → not (not b) ≡ b
not-not true = refl
not-not false = refl

some-kept : {R : Type 0} (now : R → Parcel) (o : Option R) → is_some (option_map now o) ≡ is_some o
some-kept now None = refl
some-kept now (Some x) = refl

-- a parcel whose box meets the tile is lacking exactly where the region finds none of its identifier
pub lack-told : {R : Type 0} (now : R → Parcel) (o : Option R) (own b : Bool) (r : Contents) (id : List ℕ) → own ≡ true → option_map now o ≡ parcel_named r id → is_some o ≡ not b
    → b ≡ (own && not (has_id (parcel_ids r.parcels) id))
lack-told now o own b r id e f g =
    sym (not-not b) ∙ ap not (sym g ∙ sym (some-kept now o) ∙ ap is_some f ∙ sym (has-found id r.parcels)) ∙ ap (λ (t : Bool). t && not (has_id (parcel_ids r.parcels) id)) (sym e)

-- ---- all rows
rows-at : (F : Parcel → List SeamFault) (ps : List Parcel) (k : ℕ) (p : Parcel) → k < length ps → p ≡ get_or ps k p → flat_map F (drop k ps) ≡ F p ++ flat_map F (drop (k + 1) ps)
rows-at F ps k p l e = ap (flat_map F) (drop_more ps k p l ∙ ap (λ (x : Parcel). x ∷ drop (k + 1) ps) (sym e))

-- a fault of row k is reported of all rows, where the rows before it have none
pub rows-told : (F : Parcel → List SeamFault) (ps : List Parcel) (k : ℕ) (p : Parcel) (f : SeamFault) → k < length ps → p ≡ get_or ps k p → flat_map F ps ≡ flat_map F (drop k ps) → Told (F p) f
    → Told (flat_map F ps) f
rows-told F ps k p f l e i h = told-alike (flat_map F ps) (F p ++ flat_map F (drop (k + 1) ps)) f (i ∙ rows-at F ps k p l e) (told-left (F p) (flat_map F (drop (k + 1) ps)) f h)

-- where row k has no fault either, the faults of all rows are those of the rows after it
pub reports-next : (F : Parcel → List SeamFault) (ps : List Parcel) (k : ℕ) (p : Parcel) → k < length ps → p ≡ get_or ps k p → flat_map F ps ≡ flat_map F (drop k ps) → F p ≡ []
    → flat_map F ps ≡ flat_map F (drop (k + 1) ps)
reports-next F ps k p l e i n = i ∙ rows-at F ps k p l e ∙ ap (λ (fs : List SeamFault). fs ++ flat_map F (drop (k + 1) ps)) n

-- the places of those that pass a test
pub places-more : (q : Parcel → Bool) (ps : List Parcel) (places : List ℕ) (k : ℕ) (p : Parcel) (new : Bool) → k < length ps → p ≡ get_or ps k p → new ≡ q p
    → map (slice_get ps) places ≡ map Some (filter q (take k ps)) → map (slice_get ps) (cond new (places ++ k ∷ []) places) ≡ map Some (filter q (take (k + 1) ps))
places-more q ps places k p new l e n h =
    by new n ∙ sym (map-append Some (filter q (take k ps)) (cond (q p) (p ∷ []) []))
    ∙ ap (map Some) (sym (filter_more q ps k p l ∙ ap (λ (x : Parcel). filter q (take k ps) ++ cond (q x) (x ∷ []) []) (sym e)))
  where
    here : slice_get ps k ≡ Some p
    here = slice_get-get_or ps k p l ∙ ap Some (sym e)

    by : (b : Bool) → b ≡ q p → map (slice_get ps) (cond b (places ++ k ∷ []) places) ≡ map Some (filter q (take k ps)) ++ map Some (cond (q p) (p ∷ []) [])
    by true f = map-append (slice_get ps) places (k ∷ []) ∙ ap (λ (xs : List (Option Parcel)). xs ++ slice_get ps k ∷ []) h ∙ ap (λ (x : Option Parcel). map Some (filter q (take k ps)) ++ x ∷ []) here
        ∙ ap (λ (t : Bool). map Some (filter q (take k ps)) ++ map Some (cond t (p ∷ []) [])) f
    by false f = h ∙ sym (append-nil (map Some (filter q (take k ps)))) ∙ ap (λ (t : Bool). map Some (filter q (take k ps)) ++ map Some (cond t (p ∷ []) [])) f
