-- The seam of one region more.
use Rattle.std.proofs.Common.{◌≡◌, ◌+◌, ℕ, suc, Bool, true, false, not, ◌||◌, ◌++◌, List, [], ◌∷◌, map, filter, flat_map, drop, length, get_or, Some, refl, ap, ap₂, sym, ◌∙◌, subst, arith}
use Rattle.std.specs.Prelude.{Contains as IsAmong}
use Rattle.std.specs.List.{IsDistinct, slice_get}
use Rattle.std.proofs.lemmas.List.{length-append}
use Rattle.std.proofs.lemmas.List.Elements.{All-contains_itself, All-nil, All-push, All-weaker, filter_agree}
use Rattle.lpis_points.specs.declared.boxes.Box4.{Box4}
use Rattle.lpis_tables.specs.declared.class.Class.{Class}
use Rattle.lpis_tables.specs.Ids.{has_id, same_id}
use Rattle.lpis_release.specs.declared.parcel.Parcel.{Parcel}
use Rattle.lpis_release.specs.Release.{Contents, parcel_ids, pieces_named}
use Rattle.lpis_country.specs.Country.{IsRegion, country_of, is_new, new_parcels, with_region}
use Rattle.lpis_country.proofs.Shared.{country_is_region, country_snoc, fresh_pieces, old_pieces, region_grows}
use Rattle.lpis_release.specs.Equality.{same_class}
use Rattle.lpis_release.proofs.Shared.{same_class-tells}
use Rattle.lpis_country_seam.specs.declared.kept.KeptRow.{KeptRow}
use Rattle.lpis_country_seam.specs.declared.seam.OpenSeam.{OpenSeam}
use Rattle.lpis_country_seam.specs.declared.fault.SeamCode.TheVariants.{Lacks}
use Rattle.lpis_country_seam.specs.declared.fault.SeamFault.TheVariants.{At, Classes}
use Rattle.lpis_country_seam.specs.Faults.{is_lacking, seam_row_faults, seam_class_faults, seam_fault_if, seam_faults}
use Rattle.lpis_country_seam.specs.Open.{AreJoined, HaveAwaited, IsSeamOf}
use Rattle.lpis_country_seam.specs.private.Kept.{AreThinned, at_places, new_rows, with_rows}
use Rattle.lpis_country_seam.specs.private.Stepping.{IsKeptNext, tested}
use Rattle.lpis_country_seam.specs.private.Testing.{is_fresh, tested_kept, tested_row}
use Rattle.lpis_country_seam.proofs.IdLemmas.{ids-next}
use Rattle.lpis_country_seam.proofs.KeepLemmas.{kept-next, parcels-at-places}
use Rattle.lpis_country_seam.proofs.ListLemmas.{cons-nil, nil-left, nil-right}
use Rattle.lpis_country_seam.proofs.TestLemmas.{kept-same, row-same, rows-same}

-- ---- lists with one item more
same-head : {A : Type 0} (x y : A) (xs ys : List A) → x ∷ xs ≡ y ∷ ys → x ≡ y
same-head x y xs ys e = ap (λ (l : List _). get_or l 0 x) e

same-tail : {A : Type 0} (x y : A) (xs ys : List A) → x ∷ xs ≡ y ∷ ys → xs ≡ ys
same-tail x y xs ys e = ap (drop 1) e

nothing-between : {A : Type 0} (b : List A) (y : A) (a : List A) → [] ≡ b ++ y ∷ a → ⊥
nothing-between [] y a e = cons-nil y a (sym e)
nothing-between (x ∷ xs) y a e = cons-nil x (xs ++ y ∷ a) (sym e)

-- what holds at each place of a list and at a last one holds at each place of the longer list
split-last : {A : Type 0} (P : List A → A → Type 0) (xs : List A) (x : A) → ((b : List A) (y : A) (a : List A) → xs ≡ b ++ y ∷ a → P b y) → P xs x → (b : List A) (y : A) (a : List A)
    → xs ++ x ∷ [] ≡ b ++ y ∷ a → P b y
split-last P [] x h p [] y a e = subst (P []) (same-head x y [] a e) p
split-last P [] x h p (b ∷ bs) y a e = absurd (nothing-between bs y a (same-tail x b [] (bs ++ y ∷ a) e))
split-last {A} P (z ∷ zs) x h p [] y a e = h [] y zs (ap (λ (w : A). w ∷ zs) (same-head z y (zs ++ x ∷ []) a e))
split-last {A} P (z ∷ zs) x h p (b ∷ bs) y a e =
    subst (λ (w : A). P (w ∷ bs) y) (same-head z b (zs ++ x ∷ []) (bs ++ y ∷ a) e)
    (split-last (λ (cs : List A). P (z ∷ cs)) zs x (λ cs w ds f. h (z ∷ cs) w ds (ap (λ (ws : List A). z ∷ ws) f)) p bs y a (same-tail z b (zs ++ x ∷ []) (bs ++ y ∷ a) e))

-- ---- classes
classes-same : (n : ℕ) (xs ys : List Class) → seam_class_faults n xs ys ≡ [] → xs ≡ ys
classes-same n [] [] e = refl
classes-same n [] (y ∷ ys) e = absurd (cons-nil (Classes n) [] e)
classes-same n (x ∷ xs) [] e = absurd (cons-nil (Classes n) [] e)
classes-same n (x ∷ xs) (y ∷ ys) e = by (same_class x y) refl (nil-left (seam_fault_if (not (same_class x y)) (Classes n)) (seam_class_faults (n + 1) xs ys) e)
    (classes-same (n + 1) xs ys (nil-right (seam_fault_if (not (same_class x y)) (Classes n)) (seam_class_faults (n + 1) xs ys) e))
  where
    by : (b : Bool) → same_class x y ≡ b → seam_fault_if (not b) (Classes n) ≡ [] → xs ≡ ys → x ∷ xs ≡ y ∷ ys
    by true f g h = ap₂ ◌∷◌ ((same_class-tells x y).0 f) h
    by false f g h = absurd (cons-nil (Classes n) [] g)

-- ---- regions that are joined
-- no regions at all are joined
pub none-joined : (tiles : List Box4) (ks : List Class) → AreJoined tiles ks []
none-joined tiles ks = record {
  regions_are = All-nil IsRegion;
  classes_are = All-nil (λ (r : Contents). r.classes ≡ ks);
  faultless = λ before r after e. absurd (nothing-between before r after e);
}

joined-more : (tiles : List Box4) (ks : List Class) (done : List Contents) (r : Contents) → AreJoined tiles ks done → IsRegion r → seam_faults tiles ks done r ≡ []
    → AreJoined tiles ks (done ++ r ∷ [])
joined-more tiles ks done r h g e = record {
  regions_are = All-push IsRegion done r h.regions_are g;
  classes_are = All-push (λ (x : Contents). x.classes ≡ ks) done r h.classes_are
      (classes-same 1 r.classes ks (nil-left (seam_class_faults 1 r.classes ks)
      (flat_map (seam_row_faults tiles (length done) (country_of ks done) r) r.parcels ++ map (λ (k : Parcel). At Lacks k.id (length done))
      (filter (is_lacking tiles (length done) r) (country_of ks done).parcels)) e));
  faultless = split-last (λ (before : List Contents) (x : Contents). seam_faults tiles ks before x ≡ []) done r h.faultless e;
}

-- ---- what a step tests
rows-tested : (tiles ts : List Box4) (n m : ℕ) (ids : List (List ℕ)) (kept : List KeptRow) (u r : Contents) → ts ≡ tiles → m ≡ n
    → ((id : List ℕ) → has_id ids id ≡ has_id (parcel_ids u.parcels) id) → HaveAwaited tiles n u kept → IsDistinct same_id (parcel_ids u.parcels)
    → flat_map (tested_row ts m ids kept r) r.parcels ≡ flat_map (seam_row_faults tiles n u r) r.parcels
rows-tested tiles ts n m ids kept u r e f i h d =
    ap₂ (λ (a : List Box4) (b : ℕ). flat_map (tested_row a b ids kept r) r.parcels) e f
    ∙ rows-same (tested_row tiles n ids kept r) (seam_row_faults tiles n u r) (row-same tiles n ids kept u r i h d) r.parcels

kept-tested : (tiles ts : List Box4) (n m : ℕ) (kept : List KeptRow) (u r : Contents) → ts ≡ tiles → m ≡ n → HaveAwaited tiles n u kept
    → tested_kept ts m kept r ≡ map (λ (k : Parcel). At Lacks k.id n) (filter (is_lacking tiles n r) u.parcels)
kept-tested tiles ts n m kept u r e f h = ap₂ (λ (a : List Box4) (b : ℕ). tested_kept a b kept r) e f ∙ kept-same tiles n kept u r h

-- the faults that a seam of regions finds in the next one are those that the region has after them
pub seam-tested : (tiles : List Box4) (ks : List Class) (done : List Contents) (s : OpenSeam) (r : Contents) → IsSeamOf tiles ks done s → tested s r ≡ seam_faults tiles ks done r
seam-tested tiles ks done s r h =
    ap₂ ◌++◌ (ap (seam_class_faults 1 r.classes) h.classes_are)
    (ap₂ ◌++◌ (rows-tested tiles s.tiles.items (length done) s.next s.ids s.kept (country_of ks done) r h.tiles_are h.number h.ids_are h.rows_are
    (country_is_region ks done h.joined.regions_are).distinct)
    (kept-tested tiles s.tiles.items (length done) s.next s.kept (country_of ks done) r h.tiles_are h.number h.rows_are))

-- ---- what it keeps
fresh-new : (tiles : List Box4) (ks : List Class) (done : List Contents) (s : OpenSeam) (r : Contents) → IsSeamOf tiles ks done s
    → filter (is_fresh s.ids) r.parcels ≡ new_parcels (country_of ks done) r
fresh-new tiles ks done s r h = filter_agree (is_fresh s.ids) (λ (k : Parcel). is_new (country_of ks done) k.id) (λ k. ap not (h.ids_are k.id)) r.parcels

-- the places of the parcels that are new to the seam are those of the parcels that are new to the country
pub seam-places : (tiles : List Box4) (ks : List Class) (done : List Contents) (s : OpenSeam) (r : Contents) (places : List ℕ) → IsSeamOf tiles ks done s
    → map (slice_get r.parcels) places ≡ map Some (filter (is_fresh s.ids) r.parcels)
    → map (slice_get r.parcels) places ≡ map Some (new_parcels (country_of ks done) r)
seam-places tiles ks done s r places h e = e ∙ ap (map Some) (fresh-new tiles ks done s r h)

next-later-tiles : (tiles ts : List Box4) (n m : ℕ) → ts ≡ tiles → m ≡ n → drop (m + 1) ts ≡ drop (suc n) tiles
next-later-tiles tiles ts n m e f = ap₂ (λ (a : List Box4) (b : ℕ). drop b a) e (one-more m n f)
  where
    one-more : (a b : ℕ) → a ≡ b → a + 1 ≡ suc b
    one-more a b g = omega (arith, g)

-- a seam with a faultless region more is that of the regions with this one at the end
pub seam-goes-on : (tiles : List Box4) (ks : List Class) (done : List Contents) (s next : OpenSeam) (r : Contents) (places : List ℕ) → IsSeamOf tiles ks done s → IsKeptNext s next r places
    → tested s r ≡ []
    → map (slice_get r.parcels) places ≡ map Some (filter (is_fresh s.ids) r.parcels) → IsRegion r → IsSeamOf tiles ks (done ++ r ∷ []) next
seam-goes-on tiles ks done s next r places h k e p g = record {
  tiles_are = k.tiles ∙ h.tiles_are;
  classes_are = k.classes ∙ h.classes_are;
  number = k.number ∙ ap (λ (n : ℕ). n + 1) h.number ∙ sym (length-append done (r ∷ []));
  ids_are = λ q. k.ids q ∙ ap (λ (b : Bool). b || has_id (parcel_ids r.parcels) q) (h.ids_are q) ∙ sym (ids-next u r q)
      ∙ ap (λ (w : Contents). has_id (parcel_ids w.parcels) q) (sym (country_snoc ks done r));
  rows_are = subst (λ (n : ℕ). HaveAwaited tiles n (country_of ks (done ++ r ∷ [])) next.kept) (more (length done) ∙ sym (length-append done (r ∷ [])))
      (subst (λ (w : Contents). HaveAwaited tiles (suc (length done)) w next.kept) (sym (country_snoc ks done r))
      (kept-next tiles (length done) u r s.kept k.still next.kept (at_places r.parcels places) region.distinct (region_grows u r region g).distinct
      (All-weaker (IsAmong u.parcels) (λ (x : Parcel). pieces_named (with_region u r) x.id ≡ pieces_named u x.id) (λ x a. old_pieces u r x a) u.parcels (All-contains_itself u.parcels))
      (All-weaker (IsAmong (new_parcels u r)) (λ (x : Parcel). pieces_named (with_region u r) x.id ≡ pieces_named r x.id) (λ x a. fresh_pieces u r x region a) (new_parcels u r)
      (All-contains_itself (new_parcels u r)))
      h.rows_are (parcels-at-places r.parcels places (filter (is_fresh s.ids) r.parcels) p ∙ fresh-new tiles ks done s r h)
      (subst (λ (ts : List Box4). AreThinned ts s.kept k.still) later k.thinned)
      (k.rows ∙ ap (λ (ts : List Box4). with_rows k.still (new_rows ts r (at_places r.parcels places))) later)));
  joined = joined-more tiles ks done r h.joined g (sym (seam-tested tiles ks done s r h) ∙ e);
}
  where
    u : Contents
    u = country_of ks done

    region : IsRegion u
    region = country_is_region ks done h.joined.regions_are

    later : drop (s.next + 1) s.tiles.items ≡ drop (suc (length done)) tiles
    later = next-later-tiles tiles s.tiles.items (length done) s.next h.tiles_are h.number

    more : (n : ℕ) → suc n ≡ n + 1
    more n = omega arith
