-- The country of a list of regions: what one region more adds, and that it is the regions' union.
use Rattle.std.proofs.Common.{◌≡◌, ℕ, Bool, true, false, not, List, [], ◌∷◌, ◌++◌, Some, All, ap, ap₂, sym, refl, ◌∙◌, subst, append-nil, IsTrue}
use Rattle.std.specs.Prelude.{Contains as IsAmong}
use Rattle.std.specs.List.{slice_get, Any, IsDistinct}
use Rattle.std.proofs.lemmas.List.{map-append}
use Rattle.std.proofs.lemmas.List.Elements.{All-append, All-filter, All-head, All-map, All-nil, All-tail, Contains-append_left, Contains-append_right, filter-append}
use Rattle.std.proofs.lemmas.Slice.Eq.{bytes_eq-Decides}
use Rattle.lpis_tables.specs.declared.class.Class.{Class}
use Rattle.lpis_tables.specs.declared.piece.Piece.{Piece}
use Rattle.lpis_tables.specs.Ids.{has_id, same_id}
use Rattle.lpis_release.specs.declared.parcel.Parcel.{Parcel}
use Rattle.lpis_release.specs.Release.{Contents, names_parcel, parcel_ids, pieces_named}
use Rattle.lpis_edge_sums.proofs.Shared.{found_any, any_found, all_at, all_from, filter_kept}
use Rattle.lpis_country.specs.Polygons.{HasClosedRings}
use Rattle.lpis_country.specs.Country.{IsRegion, country_of, is_new, new_parcels, new_pieces, with_region, with_regions}
use Rattle.lpis_country.specs.Union.{IsDouble, IsUnion}
use Rattle.lpis_country.proofs.ListLemmas.{all_among, all_snoc, among_at, any_left, any_right, not_both, filter_both, filter_neither, filter_none, into_filter, place_of_item}
use Rattle.lpis_country.proofs.IdLemmas.{distinct_append, distinct_filter, has_among, has_at}

-- the piece names one of these parcels
abbrev pub NamedIn : List Parcel → Piece → Type 0
NamedIn ks x = Any (λ (k : Parcel). IsTrue (names_parcel k.id x)) ks

-- ---- pieces
-- the pieces of a parcel that was there
pieces_stay : (u r : Contents) (id : List ℕ) → has_id (parcel_ids u.parcels) id ≡ true → pieces_named (with_region u r) id ≡ pieces_named u id
pieces_stay u r id h =
    filter-append (names_parcel id) u.pieces (new_pieces u r)
    ∙ ap (λ (xs : List Piece). pieces_named u id ++ xs) (filter_neither (names_parcel id) (λ (x : Piece). is_new u x.parcel)
    (λ x e. ap not (ap (has_id (parcel_ids u.parcels)) (sym ((bytes_eq-Decides id x.parcel).0 e)) ∙ h)) r.pieces)
    ∙ append-nil (pieces_named u id)

-- and those of a new one
pieces_come : (u r : Contents) (id : List ℕ) → All (NamedIn u.parcels) u.pieces → has_id (parcel_ids u.parcels) id ≡ false → pieces_named (with_region u r) id ≡ pieces_named r id
pieces_come u r id n h =
    filter-append (names_parcel id) u.pieces (new_pieces u r)
    ∙ ap₂ (λ (xs ys : List Piece). xs ++ ys) (filter_none (names_parcel id) u.pieces (all_from (λ (x : Piece). names_parcel id x ≡ false) u.pieces none))
    (filter_both (names_parcel id) (λ (x : Piece). is_new u x.parcel) (λ x e. ap not (ap (has_id (parcel_ids u.parcels)) (sym ((bytes_eq-Decides id x.parcel).0 e)) ∙ h)) r.pieces)
  where
    none : (k : ℕ) (x : Piece) → slice_get u.pieces k ≡ Some x → names_parcel id x ≡ false
    none k x e = by (names_parcel id x) refl
      where
        by : (b : Bool) → names_parcel id x ≡ b → names_parcel id x ≡ false
        by false t = t
        by true t =
            let f = any_found (λ (m : Parcel). IsTrue (names_parcel m.id x)) u.parcels (all_at (NamedIn u.parcels) u.pieces k x e n) in
            absurd (not_both (has_id (parcel_ids u.parcels) id) (has_at u.parcels f.index f.item id f.at ((bytes_eq-Decides id x.parcel).0 t ∙ sym ((bytes_eq-Decides f.item.id x.parcel).0 f.has))) h)

-- a test whose opposite is true is false
pub not_new : (b : Bool) → not b ≡ true → b ≡ false
not_new true e = absurd (not_both false e refl)
not_new false e = refl

-- a parcel that was in the country has the same pieces after one region more
pub old_pieces : (u r : Contents) (k : Parcel) → IsAmong u.parcels k → pieces_named (with_region u r) k.id ≡ pieces_named u k.id
old_pieces u r k h = pieces_stay u r k.id (has_among u.parcels k h)

new_at : (u r : Contents) (i : ℕ) (k : Parcel) → slice_get (new_parcels u r) i ≡ Some k → has_id (parcel_ids u.parcels) k.id ≡ false
new_at u r i k e = not_new (has_id (parcel_ids u.parcels) k.id) (filter_kept (λ (x : Parcel). is_new u x.id) r.parcels i k e).passes

-- a new parcel of a region has an identifier that the country did not have
pub is_fresh : (u r : Contents) (k : Parcel) → IsAmong (new_parcels u r) k → has_id (parcel_ids u.parcels) k.id ≡ false
is_fresh u r k h = let p = place_of_item (new_parcels u r) k h in new_at u r p.index k p.at

-- the new parcels of a region are among its parcels
pub in_region : (u r : Contents) (k : Parcel) → IsAmong (new_parcels u r) k → IsAmong r.parcels k
in_region u r k h = let p = place_of_item (new_parcels u r) k h in let w = filter_kept (λ (x : Parcel). is_new u x.id) r.parcels p.index k p.at in among_at r.parcels w.index k w.at

-- a new parcel of a region has in the country the pieces that it has in the region
pub fresh_pieces : (u r : Contents) (k : Parcel) → IsRegion u → IsAmong (new_parcels u r) k → pieces_named (with_region u r) k.id ≡ pieces_named r k.id
fresh_pieces u r k g h = pieces_come u r k.id g.named (is_fresh u r k h)

-- ---- one region more
-- the parcel of a new piece is new
named_new : (u r : Contents) → All (NamedIn r.parcels) r.pieces → (i : ℕ) (x : Piece) → slice_get (new_pieces u r) i ≡ Some x → NamedIn (new_parcels u r) x
named_new u r n i x e =
    let w = filter_kept (λ (y : Piece). is_new u y.parcel) r.pieces i x e in
    let f = any_found (λ (k : Parcel). IsTrue (names_parcel k.id x)) r.parcels (all_at (NamedIn r.parcels) r.pieces w.index x w.at n) in
    let v = into_filter (λ (k : Parcel). is_new u k.id) r.parcels f.index f.item f.at (ap (is_new u) ((bytes_eq-Decides f.item.id x.parcel).0 f.has) ∙ w.passes) in
    found_any (λ (k : Parcel). IsTrue (names_parcel k.id x)) (new_parcels u r) (record { index = v.index; item = f.item; at = v.at; has = f.has })

named_all : (u r : Contents) → All (NamedIn u.parcels) u.pieces → All (NamedIn r.parcels) r.pieces → All (NamedIn (with_region u r).parcels) (with_region u r).pieces
named_all u r n m = All-append (NamedIn (u.parcels ++ new_parcels u r)) u.pieces (new_pieces u r)
    (all_from (NamedIn (u.parcels ++ new_parcels u r)) u.pieces
    (λ i x e. any_left (λ (k : Parcel). IsTrue (names_parcel k.id x)) u.parcels (new_parcels u r) (all_at (NamedIn u.parcels) u.pieces i x e n)))
    (all_from (NamedIn (u.parcels ++ new_parcels u r)) (new_pieces u r) (λ i x e. any_right (λ (k : Parcel). IsTrue (names_parcel k.id x)) u.parcels (new_parcels u r) (named_new u r m i x e)))

-- an old parcel and a new one have two identifiers
differ : (u r : Contents) → All (λ (x : List ℕ). All (λ (y : List ℕ). same_id x y ≡ false) (parcel_ids (new_parcels u r))) (parcel_ids u.parcels)
differ u r =
    All-map (λ (x : List ℕ). All (λ (y : List ℕ). same_id x y ≡ false) (parcel_ids (new_parcels u r))) (λ (k : Parcel). k.id) u.parcels
    (all_from (λ (m : Parcel). All (λ (y : List ℕ). same_id m.id y ≡ false) (parcel_ids (new_parcels u r))) u.parcels (λ i m e.
    All-map (λ (y : List ℕ). same_id m.id y ≡ false) (λ (k : Parcel). k.id) (new_parcels u r)
    (all_from (λ (k : Parcel). same_id m.id k.id ≡ false) (new_parcels u r) (λ j k f. by i m e k (new_at u r j k f) (same_id m.id k.id) refl))))
  where
    by : (i : ℕ) (m : Parcel) → slice_get u.parcels i ≡ Some m → (k : Parcel) → has_id (parcel_ids u.parcels) k.id ≡ false → (b : Bool) → same_id m.id k.id ≡ b → same_id m.id k.id ≡ false
    by i m e k h false t = t
    by i m e k h true t = absurd (not_both (has_id (parcel_ids u.parcels) k.id) (has_at u.parcels i m k.id e (sym ((bytes_eq-Decides m.id k.id).0 t))) h)

distinct_all : (u r : Contents) → IsDistinct same_id (parcel_ids u.parcels) → IsDistinct same_id (parcel_ids r.parcels) → IsDistinct same_id (parcel_ids (with_region u r).parcels)
distinct_all u r n m =
    subst (IsDistinct same_id) (sym (map-append (λ (k : Parcel). k.id) u.parcels (new_parcels u r)))
    (distinct_append (parcel_ids u.parcels) (parcel_ids (new_parcels u r)) n (distinct_filter (λ (k : Parcel). is_new u k.id) r.parcels m) (differ u r))

-- a country and a region, each with distinct identifiers, named parcels and closed rings, have them together
pub region_grows : (u r : Contents) → IsRegion u → IsRegion r → IsRegion (with_region u r)
region_grows u r g h = record {
  distinct = distinct_all u r g.distinct h.distinct;
  named = named_all u r g.named h.named;
  closed =
      All-append (λ (k : Parcel). HasClosedRings k.polygon) u.parcels (new_parcels u r) g.closed
      (All-filter (λ (k : Parcel). is_new u k.id) (λ (k : Parcel). HasClosedRings k.polygon) r.parcels h.closed);
}

-- the country with a last region is that of the regions before, with this one more
pub country_snoc : (classes : List Class) (rs : List Contents) (r : Contents) → country_of classes (rs ++ r ∷ []) ≡ with_region (country_of classes rs) r
country_snoc classes rs r = by _ rs
  where
    by : (u : Contents) (ss : List Contents) → with_regions u (ss ++ r ∷ []) ≡ with_region (with_regions u ss) r
    by u [] = refl
    by u (s ∷ ss) = by (with_region u s) ss

-- the country has the classes that it was given, whatever its regions
pub country_classes : (classes : List Class) (rs : List Contents) → (country_of classes rs).classes ≡ classes
country_classes classes rs = by _ rs
  where
    by : (u : Contents) (ss : List Contents) → (with_regions u ss).classes ≡ u.classes
    by u [] = refl
    by u (s ∷ ss) = by (with_region u s) ss

empty_region : (classes : List Class) → IsRegion (country_of classes [])
unfolding IsDistinct
empty_region classes = record { distinct = tt; named = All-nil (NamedIn []); closed = All-nil (λ (k : Parcel). HasClosedRings k.polygon) }

-- the country of regions has distinct identifiers, named parcels and closed rings, as each of them has
pub country_is_region : (classes : List Class) (rs : List Contents) → All IsRegion rs → IsRegion (country_of classes rs)
country_is_region classes rs h = by _ rs (empty_region classes) h
  where
    by : (u : Contents) (ss : List Contents) → IsRegion u → All IsRegion ss → IsRegion (with_regions u ss)
    by u [] g a = g
    by u (s ∷ ss) g a = by (with_region u s) ss (region_grows u s g (All-head IsRegion s ss a)) (All-tail IsRegion s ss a)

-- ---- the union
abbrev From : List Contents → Parcel → Type 0
From ss k = Any (λ (s : Contents). IsAmong s.parcels k) ss

abbrev Doubled : Contents → Contents → Type 0
Doubled u s = All (IsDouble u s) s.parcels

still_double : (s u r : Contents) (k : Parcel) → IsDouble u s k → IsDouble (with_region u r) s k
still_double s u r k d = record {
  row = Contains-append_left u.parcels (new_parcels u r) k d.row;
  pieces = old_pieces u r k d.row ∙ d.pieces;
}

-- a parcel of the region, new or not
one_double : (u r : Contents) → All (NamedIn u.parcels) u.pieces → All (λ (k : Parcel). is_new u k.id ≡ false → IsDouble u r k) r.parcels → (j : ℕ) (k : Parcel) → slice_get r.parcels j ≡ Some k
    → IsDouble (with_region u r) r k
one_double u r n a j k f = by (is_new u k.id) refl
  where
    by : (b : Bool) → is_new u k.id ≡ b → IsDouble (with_region u r) r k
    by false e = still_double r u r k (all_at (λ (x : Parcel). is_new u x.id ≡ false → IsDouble u r x) r.parcels j k f a e)
    by true e =
        let w = into_filter (λ (x : Parcel). is_new u x.id) r.parcels j k f e in
        record {
          row = Contains-append_right u.parcels (new_parcels u r) k (among_at (new_parcels u r) w.index k w.at);
          pieces = pieces_come u r k.id n (not_new (has_id (parcel_ids u.parcels) k.id) e);
        }

-- the country of no regions is the union of none
pub no_regions : (classes : List Class) → IsUnion [] (country_of classes [])
no_regions classes =
    let g = empty_region classes in
    record { distinct = g.distinct; from = All-nil (From []); doubles = All-nil (Doubled (country_of classes [])); named = g.named; classes = All-nil (λ (r : Contents). r.classes ≡ classes) }

-- a union with one more region of the same classes is a union, where its old parcels are the same in both
pub union_grows : (rs : List Contents) (u r : Contents) → IsUnion rs u → IsRegion r → r.classes ≡ u.classes → All (λ (k : Parcel). is_new u k.id ≡ false → IsDouble u r k) r.parcels
    → IsUnion (rs ++ r ∷ []) (with_region u r)
union_grows rs u r n g c a = record {
  distinct = distinct_all u r n.distinct g.distinct;
  from = All-append (From (rs ++ r ∷ [])) u.parcels (new_parcels u r)
      (all_from (From (rs ++ r ∷ [])) u.parcels (λ i k e. any_left (λ (s : Contents). IsAmong s.parcels k) rs (r ∷ []) (all_at (From rs) u.parcels i k e n.from)))
      (all_among (From (rs ++ r ∷ [])) (new_parcels u r) (λ k h. any_right (λ (s : Contents). IsAmong s.parcels k) rs (r ∷ [])
      (found_any (λ (s : Contents). IsAmong s.parcels k) (r ∷ []) (record { index = 0; item = r; at = refl; has = in_region u r k h }))));
  doubles = all_snoc (Doubled (with_region u r)) rs r
      (all_from (Doubled (with_region u r)) rs (λ i s e. all_from (IsDouble (with_region u r) s) s.parcels
      (λ j k f. still_double s u r k (all_at (IsDouble u s) s.parcels j k f (all_at (Doubled u) rs i s e n.doubles)))))
      (all_from (IsDouble (with_region u r) r) r.parcels (one_double u r n.named a));
  named = named_all u r n.named g.named;
  classes = all_snoc (λ (s : Contents). s.classes ≡ u.classes) rs r n.classes c;
}
