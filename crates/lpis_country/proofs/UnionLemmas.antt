-- A union of regions that are sound maps.
use Rattle.std.proofs.Common.{◌≡◌, ℕ, zero, suc, ℤ, pos, ◌*ℤ◌, ◌≤ℤ◌, ◌<ℤ◌, Bool, true, false, cond, List, [], ◌∷◌, Some, ◌↔◌, All, filter, ap, sym, refl, ◌∙◌, subst, IsTrue, arith}
use Rattle.std.specs.Prelude.{Contains as IsAmong}
use Rattle.std.specs.List.{slice_get, Any, IsDistinct}
use Rattle.std.proofs.lemmas.List.Elements.{All-contains}
use Rattle.std.proofs.lemmas.Option.{none-some, slice_get_within, get_or_from_slice_get, same_Some}
use Rattle.lpis_points.specs.Plane.{RationalPoint}
use Rattle.lpis_points.specs.Sums.{int_sum_by}
use Rattle.lpis_rings.specs.Area.{area2}
use Rattle.lpis_rings.specs.Edges.{turns}
use Rattle.lpis_tables.specs.declared.class.Class.{Class}
use Rattle.lpis_tables.specs.declared.piece.Piece.{Piece}
use Rattle.lpis_tables.specs.Ids.{same_id}
use Rattle.lpis_tables.specs.Percentages.{most_percent}
use Rattle.lpis_release.specs.declared.parcel.Parcel.{Parcel}
use Rattle.lpis_release.specs.Release.{Contents, names_parcel, parcel_ids, pieces_named}
use Rattle.lpis_release.specs.Weighted.{areas2, piece_weight, weighted2}
use Rattle.lpis_edge_sums.specs.Counting.{AtMostOne, ExactlyOne}
use Rattle.lpis_edge_sums.proofs.Shared.{Found, any_found, all_at, all_from, filter_kept}
use Rattle.lpis_checker.specs.SoundMap.{IsInParcel, IsInPiece, IsSoundMap, IsSoundEverywhere, TurnsTell, TurnsOnce, AreasAdd}
use Rattle.lpis_country.specs.Union.{IsDouble, IsUnion}
use Rattle.lpis_country.proofs.ListLemmas.{among_at, all_among, into_filter, place_of_item}
use Rattle.lpis_country.proofs.IdLemmas.{same_index}

-- a region has both parcels
pub record HasBoth (a b : Parcel) (r : Contents) : Type 0 where
  pub one : IsAmong r.parcels a
  pub two : IsAmong r.parcels b

-- two parcels of the country that share a point stand together in a region
abbrev pub SeamIsMet : List Contents → Contents → Type 0
SeamIsMet regions country = (p : RationalPoint) → pos 0 <ℤ p.d → (a b : Parcel) → IsAmong country.parcels a → IsAmong country.parcels b → IsInParcel p a → IsInParcel p b → Any (HasBoth a b) regions

-- ---- one of a list
nought_one : (m : ℕ) → zero ≡ suc m → ⊥
nought_one m e = omega arith

one_nought : (m : ℕ) → suc m ≡ zero → ⊥
one_nought m e = omega arith

less_one : (i j : ℕ) → suc i ≡ suc j → i ≡ j
less_one i j e = omega arith

rest_few : {A : Type 0} (P : A → Type 0) (x : A) (xs : List A) → AtMostOne P (x ∷ xs) → AtMostOne P xs
rest_few P x xs h i j a b e f p s = less_one i j (h (suc i) (suc j) a b e f p s)

-- of the items that a test lets through there is at most one where there is at most one of all
few_filter : {A : Type 0} (q : A → Bool) (P : A → Type 0) (xs : List A) → AtMostOne P xs → AtMostOne P (filter q xs)
few_filter {A} q P [] h = λ i j a b e f p s. absurd (none-some a e)
few_filter {A} q P (x ∷ xs) h = by (q x) (few_filter q P xs (rest_few P x xs h))
  where
    by : (b : Bool) → AtMostOne P (filter q xs) → AtMostOne P (cond b (x ∷ filter q xs) (filter q xs))
    by true r zero zero a b e f p s = refl
    by true r zero (suc j) a b e f p s = let w = filter_kept q xs j b f in absurd (nought_one w.index (h 0 (suc w.index) a b e w.at p s))
    by true r (suc i) zero a b e f p s = let w = filter_kept q xs i a e in absurd (one_nought w.index (h (suc w.index) 0 a b w.at f p s))
    by true r (suc i) (suc j) a b e f p s = ap suc (r i j a b e f p s)
    by false r i j a b e f p s = r i j a b e f p s

-- two items with the property that the test lets through are one, where of those that it lets through at most one has it
kept_place : {A : Type 0} (q : A → Bool) (P : A → Type 0) (xs : List A) → AtMostOne P (filter q xs) → (i j : ℕ) (a b : A) → slice_get xs i ≡ Some a → slice_get xs j ≡ Some b → q a ≡ true
    → q b ≡ true → P a → P b → i ≡ j
kept_place q P [] h i j a b e f t u p s = absurd (none-some a e)
kept_place q P (x ∷ xs) h zero zero a b e f t u p s = refl
kept_place {A} q P (x ∷ xs) h zero (suc j) a b e f t u p s =
    let w = into_filter q xs j b f u in
    let k : AtMostOne P (x ∷ filter q xs) = subst (λ (c : Bool). AtMostOne P (cond c (x ∷ filter q xs) (filter q xs))) (ap q (same_Some x a e) ∙ t) h in
    absurd (nought_one w.index (k 0 (suc w.index) a b e w.at p s))
kept_place {A} q P (x ∷ xs) h (suc i) zero a b e f t u p s =
    let w = into_filter q xs i a e t in
    let k : AtMostOne P (x ∷ filter q xs) = subst (λ (c : Bool). AtMostOne P (cond c (x ∷ filter q xs) (filter q xs))) (ap q (same_Some x b f) ∙ u) h in
    absurd (one_nought w.index (k (suc w.index) 0 a b w.at f p s))
kept_place {A} q P (x ∷ xs) h (suc i) (suc j) a b e f t u p s = ap suc (kept_place q P xs (by (q x) h) i j a b e f t u p s)
  where
    by : (c : Bool) → AtMostOne P (cond c (x ∷ filter q xs) (filter q xs)) → AtMostOne P (filter q xs)
    by true k = rest_few P x (filter q xs) k
    by false k = k

-- ---- a region with a parcel, and one with a piece
pub record Home (regions : List Contents) (u : Contents) (k : Parcel) : Type 0 where
  pub r : Contents
  pub among : IsAmong regions r
  pub has : IsAmong r.parcels k
  pub double : IsDouble u r k
  pub classes : r.classes ≡ u.classes

-- each parcel of a union is in one of its regions, with the same pieces there and the same classes
pub region_of_parcel : (rs : List Contents) (u : Contents) → IsUnion rs u → (k : Parcel) → IsAmong u.parcels k → Home rs u k
region_of_parcel rs u n k h =
    let f = any_found (λ (r : Contents). IsAmong r.parcels k) rs (All-contains (λ (x : Parcel). Any (λ (r : Contents). IsAmong r.parcels x) rs) u.parcels k n.from h) in
    record {
      r = f.item;
      among = among_at rs f.index f.item f.at;
      has = f.has;
      double = All-contains (IsDouble u f.item) f.item.parcels k (all_at (λ (r : Contents). All (IsDouble u r) r.parcels) rs f.index f.item f.at n.doubles) f.has;
      classes = all_at (λ (r : Contents). r.classes ≡ u.classes) rs f.index f.item f.at n.classes;
    }

record PieceHome (rs : List Contents) (u : Contents) (x : Piece) : Type 0 where
  parcel : Found (λ (k : Parcel). names_parcel k.id x ≡ true) u.parcels
  r : Contents
  among : IsAmong rs r
  index : ℕ
  at : slice_get r.pieces index ≡ Some x

piece_home : (rs : List Contents) (u : Contents) → IsUnion rs u → (i : ℕ) (x : Piece) → slice_get u.pieces i ≡ Some x → PieceHome rs u x
piece_home rs u n i x e =
    let f = any_found (λ (k : Parcel). IsTrue (names_parcel k.id x)) u.parcels (all_at (λ (y : Piece). Any (λ (k : Parcel). IsTrue (names_parcel k.id y)) u.parcels) u.pieces i x e n.named) in
    let g = region_of_parcel rs u n f.item (among_at u.parcels f.index f.item f.at) in
    let w = into_filter (names_parcel f.item.id) u.pieces i x e f.has in
    let v = filter_kept (names_parcel f.item.id) g.r.pieces w.index x (sym (ap (λ (xs : List Piece). slice_get xs w.index) g.double.pieces) ∙ w.at) in
    record { parcel = f; r = g.r; among = g.among; index = v.index; at = v.at }

-- ---- points
country_filled : (rs : List Contents) (u : Contents) → IsUnion rs u → All IsSoundMap rs → (p : RationalPoint) → pos 0 <ℤ p.d → (k : Parcel) → IsAmong u.parcels k
    → IsInParcel p k ↔ ExactlyOne (IsInPiece p) (pieces_named u k.id)
country_filled rs u n s p d k h =
    let g = region_of_parcel rs u n k h in
    let sound = All-contains IsSoundMap rs g.r s g.among in
    subst (λ (xs : List Piece). IsInParcel p k ↔ ExactlyOne (IsInPiece p) xs) (sym g.double.pieces)
    (All-contains (λ (x : Parcel). IsInParcel p x ↔ ExactlyOne (IsInPiece p) (pieces_named g.r x.id)) g.r.parcels k (sound.everywhere.filled p d) g.has)

-- the pieces of a parcel of the country hold a point once at most
few_named : (rs : List Contents) (u : Contents) → IsUnion rs u → All IsSoundMap rs → (p : RationalPoint) → pos 0 <ℤ p.d → (k : Parcel) → IsAmong u.parcels k
    → AtMostOne (IsInPiece p) (pieces_named u k.id)
few_named rs u n s p d k h =
    let g = region_of_parcel rs u n k h in
    let sound = All-contains IsSoundMap rs g.r s g.among in
    subst (AtMostOne (IsInPiece p)) (sym g.double.pieces) (few_filter (names_parcel k.id) (IsInPiece p) g.r.pieces (sound.everywhere.one_piece p d))

country_parcel : (rs : List Contents) (u : Contents) → IsUnion rs u → All IsSoundMap rs → SeamIsMet rs u → (p : RationalPoint) → pos 0 <ℤ p.d → AtMostOne (IsInParcel p) u.parcels
country_parcel rs u n s m p d i j a b e f x y =
    let both = any_found (HasBoth a b) rs (m p d a b (among_at u.parcels i a e) (among_at u.parcels j b f) x y) in
    let v = place_of_item both.item.parcels a both.has.one in
    let w = place_of_item both.item.parcels b both.has.two in
    let sound = all_at IsSoundMap rs both.index both.item both.at s in
    let same : v.index ≡ w.index = sound.everywhere.one_parcel p d v.index w.index a b v.at w.at x y in
    let one : a ≡ b = same_Some a b (sym v.at ∙ ap (slice_get both.item.parcels) same ∙ w.at) in
    same_index u.parcels n.distinct i j a b e f (ap (λ (k : Parcel). k.id) one)

-- a piece's parcel holds what the piece holds
in_its_parcel : (rs : List Contents) (u : Contents) → IsUnion rs u → All IsSoundMap rs → (p : RationalPoint) → pos 0 <ℤ p.d → (k : Parcel) → IsAmong u.parcels k → (i : ℕ) (x : Piece)
    → slice_get u.pieces i ≡ Some x → names_parcel k.id x ≡ true → IsInPiece p x → IsInParcel p k
in_its_parcel rs u n s p d k h i x e t y =
    let w = into_filter (names_parcel k.id) u.pieces i x e t in
    (country_filled rs u n s p d k h).1 (
      (
        w.index,
        x,
        slice_get_within (pieces_named u k.id) w.index x w.at,
        get_or_from_slice_get
            (pieces_named u k.id) w.index x x w.at,
        y,
      ),
      few_named rs u n s p d k h,
    )

country_piece : (rs : List Contents) (u : Contents) → IsUnion rs u → All IsSoundMap rs → SeamIsMet rs u → (p : RationalPoint) → pos 0 <ℤ p.d → AtMostOne (IsInPiece p) u.pieces
country_piece rs u n s m p d i j a b e f x y =
    let g = (piece_home rs u n i a e).parcel in
    let h = (piece_home rs u n j b f).parcel in
    let in_a = in_its_parcel rs u n s p d g.item (among_at u.parcels g.index g.item g.at) i a e g.has x in
    let in_b = in_its_parcel rs u n s p d h.item (among_at u.parcels h.index h.item h.at) j b f h.has y in
    let same : g.index ≡ h.index = country_parcel rs u n s m p d g.index h.index g.item h.item g.at h.at in_a in_b in
    let one : h.item ≡ g.item = same_Some h.item g.item (sym h.at ∙ ap (slice_get u.parcels) (sym same) ∙ g.at) in
    kept_place (names_parcel g.item.id) (IsInPiece p) u.pieces (few_named rs u n s p d g.item (among_at u.parcels g.index g.item g.at)) i j a b e f g.has
    (sym (ap (λ (k : Parcel). names_parcel k.id b) one) ∙ h.has) x y

country_everywhere : (rs : List Contents) (u : Contents) → IsUnion rs u → All IsSoundMap rs → SeamIsMet rs u → IsSoundEverywhere u
country_everywhere rs u n s m = record {
  one_piece = country_piece rs u n s m;
  one_parcel = country_parcel rs u n s m;
  filled = λ p d. all_among (λ (k : Parcel). IsInParcel p k ↔ ExactlyOne (IsInPiece p) (pieces_named u k.id)) u.parcels (country_filled rs u n s p d);
}

-- each polygon of a union of sound maps turns once round the points that it contains, and round no other
pub country_turns : (rs : List Contents) (u : Contents) → IsUnion rs u → All IsSoundMap rs → TurnsOnce u
country_turns rs u n s = record {
  pieces = λ p d. all_from (λ (x : Piece). TurnsTell (IsInPiece p x) (turns x.polygon p)) u.pieces (λ i x e.
      let g = piece_home rs u n i x e in
      let sound = All-contains IsSoundMap rs g.r s g.among in
      all_at (λ (y : Piece). TurnsTell (IsInPiece p y) (turns y.polygon p)) g.r.pieces g.index x g.at (sound.turns.pieces p d));
  parcels = λ p d. all_among (λ (x : Parcel). TurnsTell (IsInParcel p x) (turns x.polygon p)) u.parcels (λ x h.
      let g = region_of_parcel rs u n x h in
      let sound = All-contains IsSoundMap rs g.r s g.among in
      All-contains (λ (y : Parcel). TurnsTell (IsInParcel p y) (turns y.polygon p)) g.r.parcels x (sound.turns.parcels p d) g.has);
}

-- ---- areas
-- a parcel weighs what it weighs in a region
weighs : (rs : List Contents) (u : Contents) (k : Parcel) → (g : Home rs u k) → weighted2 u k.id ≡ weighted2 g.r k.id
weighs rs u k g = ap (int_sum_by (piece_weight u.classes)) g.double.pieces ∙ ap (λ (ks : List Class). int_sum_by (piece_weight ks) (pieces_named g.r k.id)) (sym g.classes)

abbrev IsShare : Contents → Parcel → Type 0
IsShare r x = (pos 0 ≤ℤ weighted2 r x.id) × (weighted2 r x.id ≤ℤ (pos most_percent *ℤ area2 x.polygon))

country_areas : (rs : List Contents) (u : Contents) → IsUnion rs u → All IsSoundMap rs → AreasAdd u
country_areas rs u n s = record {
  pieces = all_from (λ (x : Piece). pos 0 <ℤ area2 x.polygon) u.pieces (λ i x e.
      let g = piece_home rs u n i x e in
      let sound = All-contains IsSoundMap rs g.r s g.among in
      all_at (λ (y : Piece). pos 0 <ℤ area2 y.polygon) g.r.pieces g.index x g.at sound.areas.pieces);
  parcels = all_among (λ (x : Parcel). area2 x.polygon ≡ areas2 (pieces_named u x.id)) u.parcels (λ x h.
      let g = region_of_parcel rs u n x h in
      let sound = All-contains IsSoundMap rs g.r s g.among in
      All-contains (λ (y : Parcel). area2 y.polygon ≡ areas2 (pieces_named g.r y.id)) g.r.parcels x sound.areas.parcels g.has ∙ ap areas2 (sym g.double.pieces));
  weighted = all_among (IsShare u) u.parcels (λ x h.
      let g = region_of_parcel rs u n x h in
      let sound = All-contains IsSoundMap rs g.r s g.among in
      subst (λ (z : ℤ). (pos 0 ≤ℤ z) × (z ≤ℤ (pos most_percent *ℤ area2 x.polygon))) (sym (weighs rs u x g)) (All-contains (IsShare g.r) g.r.parcels x sound.areas.weighted g.has));
}

-- ---- the theorem
-- a union of sound maps is one, where parcels that share a point stand together in a region
pub union_is_sound : (rs : List Contents) (u : Contents) → IsUnion rs u → All IsSoundMap rs → SeamIsMet rs u → IsSoundMap u
union_is_sound rs u n s m =
    let every = country_everywhere rs u n s m in
    record {
      off = record { one_parcel = λ p d off. every.one_parcel p d; filled = λ p d off. every.filled p d };
      everywhere = every;
      turns = country_turns rs u n s;
      areas = country_areas rs u n s;
    }
