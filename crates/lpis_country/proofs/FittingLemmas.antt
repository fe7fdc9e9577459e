-- Regions each of which fits to those before it, one for each tile.
use Rattle.std.proofs.Common.{◌≡◌, ℕ, zero, suc, ◌<◌, true, false, not, List, [], ◌∷◌, ◌++◌, ◌⊎◌, inl, inr, length, take, Some, All, ap, sym, refl, ◌∙◌, subst, append-nil, append_assoc, arith}
use Rattle.std.specs.Prelude.{Contains as IsAmong}
use Rattle.std.specs.List.{slice_get}
use Rattle.std.proofs.lemmas.List.Elements.{All-append, All-contains, All-head, All-nil, All-tail}
use Rattle.std.proofs.lemmas.Option.{none-some, slice_get_within}
use Rattle.lpis_points.specs.declared.boxes.Box4.{Box4}
use Rattle.lpis_rings.specs.Edges.{turns}
use Rattle.lpis_tables.specs.declared.class.Class.{Class}
use Rattle.lpis_tables.specs.Ids.{has_id}
use Rattle.lpis_release.specs.declared.parcel.Parcel.{Parcel}
use Rattle.lpis_release.specs.Release.{Contents, parcel_ids}
use Rattle.lpis_edge_sums.proofs.Shared.{Found, all_at, found_any}
use Rattle.lpis_checker.specs.SoundMap.{IsInParcel, IsSoundMap, TurnsTell}
use Rattle.lpis_country.specs.Polygons.{HasClosedRings, box_of_members}
use Rattle.lpis_country.specs.Tiling.{frame, reaches, rectangles}
use Rattle.lpis_country.specs.Tree.{Tree}
use Rattle.lpis_country.specs.Country.{IsRegion, country_of, is_new, new_parcels, with_region}
use Rattle.lpis_country.specs.Union.{IsDouble, IsUnion}
use Rattle.lpis_country.proofs.ListLemmas.{all_among, among_at, not_both, front_or_last, item_at, place_of_item}
use Rattle.lpis_country.proofs.IdLemmas.{has_among, id_found, same_parcel}
use Rattle.lpis_country.proofs.BoxLemmas.{IsPointIn, box_covers, box_framed}
use Rattle.lpis_country.proofs.OutsideLemmas.{in_its_box}
use Rattle.lpis_country.proofs.TileLemmas.{meet_at, point_wider, tile_of}
use Rattle.lpis_country.proofs.UnionLemmas.{HasBoth, SeamIsMet, country_turns, region_of_parcel, union_is_sound}
use Rattle.lpis_country.proofs.CountryLemmas.{country_classes, country_snoc, in_region, is_fresh, no_regions, union_grows}

-- ---- regions one after the other
-- a new parcel reaches no tile before number n
abbrev pub IsLate : List Box4 → ℕ → Contents → Parcel → Type 0
IsLate tiles n country k = is_new country k.id ≡ true → All (λ (t : Box4). reaches k t ≡ false) (take n tiles)

-- the region has the parcel's identifier, where the parcel reaches tile n
abbrev pub IsThere : List Box4 → ℕ → Contents → Parcel → Type 0
IsThere tiles n r k = (t : Box4) → slice_get tiles n ≡ Some t → reaches k t ≡ true → has_id (parcel_ids r.parcels) k.id ≡ true

-- the region of the tile with number n fits to the country of those before it: a parcel that was there is the same, a new one reaches no
-- tile before, and none that reaches the tile is left out
pub record FitsCountry (tiles : List Box4) (n : ℕ) (country r : Contents) : Type 0 where
  pub same : All (λ (k : Parcel). is_new country k.id ≡ false → IsDouble country r k) r.parcels
  pub new : All (IsLate tiles n country) r.parcels
  pub none_lacks : All (IsThere tiles n r) country.parcels

-- each region fits to the country of those before it
abbrev pub EachFits : List Box4 → List Class → List Contents → Type 0
EachFits tiles classes regions = (before : List Contents) (r : Contents) (after : List Contents) → regions ≡ before ++ r ∷ after → FitsCountry tiles (length before) (country_of classes before) r

-- ---- each parcel stands in the region of each tile that it reaches
abbrev Stands : List Box4 → List Contents → Parcel → Type 0
Stands tiles done k = (i : ℕ) (t : Box4) (r : Contents) → slice_get done i ≡ Some r → slice_get tiles i ≡ Some t → reaches k t ≡ true → IsAmong r.parcels k

record IsMade (tiles : List Box4) (classes : List Class) (done : List Contents) : Type 0 where
  union : IsUnion done (country_of classes done)
  stands : All (Stands tiles done) (country_of classes done).parcels

-- a parcel of the country whose identifier the region has is a row of the region
row_of : (tiles : List Box4) (n : ℕ) (rs : List Contents) (u r : Contents) → IsUnion rs u → FitsCountry tiles n u r → (k : Parcel) → IsAmong u.parcels k
    → has_id (parcel_ids r.parcels) k.id ≡ true → IsAmong r.parcels k
row_of tiles n rs u r m f k h e =
    let w = id_found r.parcels k.id e in
    let old : is_new u w.item.id ≡ false = ap not (ap (has_id (parcel_ids u.parcels)) (sym w.has) ∙ has_among u.parcels k h) in
    let d = all_at (λ (x : Parcel). is_new u x.id ≡ false → IsDouble u r x) r.parcels w.index w.item w.at f.same old in
    subst (IsAmong r.parcels) (sym (same_parcel u.parcels m.distinct k w.item h d.row w.has)) (among_at r.parcels w.index w.item w.at)

in_front : (tiles : List Box4) (n i : ℕ) (t : Box4) → i < n → slice_get tiles i ≡ Some t → IsAmong (take n tiles) t
in_front [] n i t l e = absurd (none-some t e)
in_front (x ∷ xs) (suc n) zero t l e = among_at (x ∷ take n xs) 0 t e
in_front (x ∷ xs) (suc n) (suc i) t l e = more (in_front xs n i t (omega (arith, l)) e)
  where
    more : IsAmong (take n xs) t → IsAmong (x ∷ take n xs) t
    more h = let p = place_of_item (take n xs) t h in among_at (x ∷ take n xs) (suc p.index) t p.at
in_front (x ∷ xs) zero i t l e = absurd (omega (arith, l))

stands_on : (tiles : List Box4) (classes : List Class) (done : List Contents) (r : Contents) → IsMade tiles classes done → FitsCountry tiles (length done) (country_of classes done) r
    → All (Stands tiles (done ++ r ∷ [])) (with_region (country_of classes done) r).parcels
stands_on tiles classes done r m f =
    All-append (Stands tiles (done ++ r ∷ [])) u.parcels (new_parcels u r) (all_among (Stands tiles (done ++ r ∷ [])) u.parcels old) (all_among (Stands tiles (done ++ r ∷ [])) (new_parcels u r) new)
  where
    u : Contents
    u = country_of classes done

    old : (k : Parcel) → IsAmong u.parcels k → Stands tiles (done ++ r ∷ []) k
    old k h i t s e a q = by (front_or_last done r i s e)
      where
        by : (slice_get done i ≡ Some s) ⊎ ((i ≡ length done) × (s ≡ r)) → IsAmong s.parcels k
        by (inl d) = All-contains (Stands tiles done) u.parcels k m.stands h i t s d a q
        by (inr l) =
            let has = All-contains (IsThere tiles (length done) r) u.parcels k f.none_lacks h t (ap (slice_get tiles) (sym l.0) ∙ a) q in
            subst (λ (x : Contents). IsAmong x.parcels k) (sym l.1) (row_of tiles (length done) done u r m.union f k h has)

    new : (k : Parcel) → IsAmong (new_parcels u r) k → Stands tiles (done ++ r ∷ []) k
    new k h i t s e a q = by (front_or_last done r i s e)
      where
        by : (slice_get done i ≡ Some s) ⊎ ((i ≡ length done) × (s ≡ r)) → IsAmong s.parcels k
        by (inl d) =
            let none = All-contains (IsLate tiles (length done) u) r.parcels k f.new (in_region u r k h) (ap not (is_fresh u r k h)) in
            absurd (not_both (reaches k t) q (All-contains (λ (v : Box4). reaches k v ≡ false) (take (length done) tiles) t none (in_front tiles (length done) i t (slice_get_within done i s d) a)))
        by (inr l) = subst (λ (x : Contents). IsAmong x.parcels k) (sym l.1) (in_region u r k h)

made_more : (tiles : List Box4) (classes : List Class) (done : List Contents) (r : Contents) → IsMade tiles classes done → IsRegion r → r.classes ≡ classes
    → FitsCountry tiles (length done) (country_of classes done) r → IsMade tiles classes (done ++ r ∷ [])
made_more tiles classes done r m g c f =
    let u = country_of classes done in
    let e = sym (country_snoc classes done r) in
    record {
      union = subst (IsUnion (done ++ r ∷ [])) e (union_grows done u r m.union g (c ∙ sym (country_classes classes done)) f.same);
      stands = subst (λ (v : Contents). All (Stands tiles (done ++ r ∷ [])) v.parcels) e (stands_on tiles classes done r m f);
    }

made : (tiles : List Box4) (classes : List Class) (rs : List Contents) → All IsRegion rs → All (λ (r : Contents). r.classes ≡ classes) rs → EachFits tiles classes rs → IsMade tiles classes rs
made tiles classes rs g c h = by [] rs (record { union = no_regions classes; stands = All-nil (Stands tiles []) }) g c h
  where
    by : (done ss : List Contents) → IsMade tiles classes done → All IsRegion ss → All (λ (r : Contents). r.classes ≡ classes) ss → EachFits tiles classes (done ++ ss)
        → IsMade tiles classes (done ++ ss)
    by done [] m g c h = subst (IsMade tiles classes) (sym (append-nil done)) m
    by done (s ∷ ss) m g c h =
        let same = append_assoc done (s ∷ []) ss in
        subst (IsMade tiles classes) same (by (done ++ s ∷ []) ss
        (made_more tiles classes done s m (All-head IsRegion s ss g) (All-head (λ (r : Contents). r.classes ≡ classes) s ss c) (h done s ss refl))
        (All-tail IsRegion s ss g) (All-tail (λ (r : Contents). r.classes ≡ classes) s ss c) (subst (EachFits tiles classes) (sym same) h))

-- regions of the same classes, of which each fits to those before, make up their union
pub country_is_union : (tiles : List Box4) (classes : List Class) (rs : List Contents) → All IsRegion rs → All (λ (r : Contents). r.classes ≡ classes) rs → EachFits tiles classes rs
    → IsUnion rs (country_of classes rs)
country_is_union tiles classes rs g c h =
    let m = made tiles classes rs g c h in
    m.union

-- ---- the theorem
seam_is_met : (tiling : Tree) (classes : List Class) (rs : List Contents) → All IsRegion rs → All IsSoundMap rs → IsMade (rectangles tiling frame) classes rs
    → length rs ≡ length (rectangles tiling frame) → SeamIsMet rs (country_of classes rs)
seam_is_met tiling classes rs g s m e p d a b ha hb x y =
    let t = tile_of tiling frame p (point_wider (box_of_members a.polygon) frame p d (box_framed a.polygon) (box_of a ha x)) in
    let r = item_at rs t.index (subst (λ (n : ℕ). t.index < n) (sym e) (slice_get_within tiles t.index t.item t.at)) in
    found_any (HasBoth a b) rs (record { index = t.index; item = r.0; at = r.1; has = record { one = stands a ha x t r.0 r.1; two = stands b hb y t r.0 r.1 } })
  where
    tiles : List Box4
    tiles = rectangles tiling frame

    u : Contents
    u = country_of classes rs

    box_of : (k : Parcel) → IsAmong u.parcels k → IsInParcel p k → IsPointIn (box_of_members k.polygon) p
    box_of k h c =
        let w = region_of_parcel rs u m.union k h in
        let region = All-contains IsRegion rs w.r g w.among in
        let tells = All-contains (λ (z : Parcel). TurnsTell (IsInParcel p z) (turns z.polygon p)) u.parcels k ((country_turns rs u m.union s).parcels p d) h in
        in_its_box (box_of_members k.polygon) p d k.polygon (All-contains (λ (z : Parcel). HasClosedRings z.polygon) w.r.parcels k region.closed w.has) (box_covers k.polygon) (tells.1.0 c)

    stands : (k : Parcel) → IsAmong u.parcels k → IsInParcel p k → (t : Found (λ (v : Box4). IsPointIn v p) tiles) → (r : Contents) → slice_get rs t.index ≡ Some r → IsAmong r.parcels k
    stands k h c t r at = All-contains (Stands tiles rs) u.parcels k m.stands h t.index t.item r at t.at (meet_at t.item (box_of_members k.polygon) p d t.has (box_of k h c))

-- sound regions of the same classes, one a tile, of which each fits to those before, make up a sound country
pub country_is_sound : (tiling : Tree) (classes : List Class) (rs : List Contents) → All IsRegion rs → All IsSoundMap rs → All (λ (r : Contents). r.classes ≡ classes) rs
    → EachFits (rectangles tiling frame) classes rs
    → length rs ≡ length (rectangles tiling frame) → IsSoundMap (country_of classes rs)
country_is_sound tiling classes rs g s c h e =
    let m = made (rectangles tiling frame) classes rs g c h in
    union_is_sound rs (country_of classes rs) m.union s (seam_is_met tiling classes rs g s m e)
