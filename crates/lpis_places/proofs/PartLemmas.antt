-- A parcel of a sound map is parted in its pieces.
use Rattle.std.proofs.Common.{◌≡◌, ℕ, zero, suc, Bool, true, false, cond, List, [], ◌∷◌, filter, All, Any, ℤ, pos, ◌<ℤ◌, IsTrue, ◌↔◌, ap, sym, refl, subst, arith}
use Rattle.std.specs.Prelude.{Contains as IsAmong}
use Rattle.std.proofs.lemmas.List.Elements.{All-contains}
use Rattle.std.proofs.lemmas.Option.{none-some}
use Rattle.std.proofs.lemmas.Slice.Eq.{bytes_eq-Decides}
use Rattle.lpis_points.specs.Plane.{RationalPoint}
use Rattle.lpis_tables.specs.declared.piece.Piece.{Piece}
use Rattle.lpis_release.specs.declared.parcel.Parcel.{Parcel}
use Rattle.lpis_release.specs.Release.{Contents, names_parcel, pieces_named}
use Rattle.lpis_edge_sums.specs.Counting.{AtMostOne, ExactlyOne}
use Rattle.lpis_edge_sums.proofs.Shared.{any_found, filter_kept, found_any}
use Rattle.lpis_checker.specs.SoundMap.{IsInParcel, IsInPiece, IsNowhere, IsSoundMap}
use Rattle.std.proofs.lemmas.Int.{ints}
use Rattle.lpis_places.specs.Numbers.{parts}
use Rattle.lpis_places.specs.Points.{Given}
use Rattle.lpis_country.specs.Country.{IsRegion}
use Rattle.lpis_places.proofs.ListLemmas.{all_among, among_at, into_filter, place_of_item}

nought_one : (m : ℕ) → zero ≡ suc m → ⊥
nought_one m e = omega arith

one_nought : (m : ℕ) → suc m ≡ zero → ⊥
one_nought m e = omega arith

less_one : (i j : ℕ) → suc i ≡ suc j → i ≡ j
less_one i j e = omega arith

-- of the items that a test lets through there is at most one where there is at most one of all
few_filter : {A : Type 0} (q : A → Bool) (P : A → Type 0) (xs : List A) → AtMostOne P xs → AtMostOne P (filter q xs)
few_filter {A} q P [] h = λ i j a b e f p s. absurd (none-some a e)
few_filter {A} q P (x ∷ xs) h = by (q x) (few_filter q P xs (λ i j a b e f p s. less_one i j (h (suc i) (suc j) a b e f p s)))
  where
    by : (b : Bool) → AtMostOne P (filter q xs) → AtMostOne P (cond b (x ∷ filter q xs) (filter q xs))
    by true r zero zero a b e f p s = refl
    by true r zero (suc j) a b e f p s = let w = filter_kept q xs j b f in absurd (nought_one w.index (h 0 (suc w.index) a b e w.at p s))
    by true r (suc i) zero a b e f p s = let w = filter_kept q xs i a e in absurd (one_nought w.index (h (suc w.index) 0 a b w.at f p s))
    by true r (suc i) (suc j) a b e f p s = ap suc (r i j a b e f p s)
    by false r i j a b e f p s = r i j a b e f p s

-- the parcel of a piece contains the point
pub record IsInItsParcel (r : Contents) (p : RationalPoint) (k : Piece) : Type 0 where
  pub x : Parcel
  pub is_parcel : IsAmong r.parcels x
  pub id : x.id ≡ k.parcel
  pub in_parcel : IsInParcel p x

-- the parcel of a piece contains the point of the piece, and a parcel contains no point that is in no piece
pub record IsParted (r : Contents) (p : RationalPoint) : Type 0 where
  pub of_piece : (k : Piece) → IsAmong r.pieces k → IsInPiece p k → IsInItsParcel r p k
  pub of_none : All (λ (k : Piece). IsInPiece p k → ⊥) r.pieces → IsNowhere r p

-- a piece is one of those that name its parcel
pub piece_named : (r : Contents) (k : Piece) → IsAmong r.pieces k → IsAmong (pieces_named r k.parcel) k
piece_named r k among =
    let at = place_of_item r.pieces k among in
    let w = into_filter (names_parcel k.parcel) r.pieces at.index k at.at ((bytes_eq-Decides k.parcel k.parcel).1 refl) in
    among_at (pieces_named r k.parcel) w.index k w.at

filled_at : (r : Contents) (p : RationalPoint) → IsSoundMap r → pos 0 <ℤ p.d → (x : Parcel) → IsAmong r.parcels x → IsInParcel p x ↔ ExactlyOne (IsInPiece p) (pieces_named r x.id)
filled_at r p sound d x among = All-contains (λ (k : Parcel). IsInParcel p k ↔ ExactlyOne (IsInPiece p) (pieces_named r k.id)) r.parcels x (sound.everywhere.filled p d) among

-- so it is in a sound map
pub is_parted : (r : Contents) (p : RationalPoint) → IsSoundMap r → IsRegion r → pos 0 <ℤ p.d → IsParted r p
is_parted r p sound region d = record {
  of_piece = λ k among inside.
      let f = any_found (λ (x : Parcel). IsTrue (names_parcel x.id k)) r.parcels
      (All-contains (λ (y : Piece). Any (λ (x : Parcel). IsTrue (names_parcel x.id y)) r.parcels) r.pieces k region.named among) in
      let parcel = f.item in
      let is : IsAmong r.parcels parcel = among_at r.parcels f.index parcel f.at in
      let id : parcel.id ≡ k.parcel = (bytes_eq-Decides parcel.id k.parcel).0 f.has in
      let named = place_of_item (pieces_named r parcel.id) k (subst (λ (i : List ℕ). IsAmong (pieces_named r i) k) (sym id) (piece_named r k among)) in
      let one = found_any (IsInPiece p) (pieces_named r parcel.id) (record { index = named.index; item = k; at = named.at; has = inside }) in
      record {
        x = parcel;
        is_parcel = is;
        id = id;
        in_parcel = (filled_at r p sound d parcel is).1 (
          one,
          few_filter (names_parcel parcel.id) (IsInPiece p) r.pieces
              (sound.everywhere.one_piece p d),
        );
      };
  of_none = λ none. all_among (λ (x : Parcel). IsInParcel p x → ⊥) r.parcels (λ x is inside.
      let one = any_found (IsInPiece p) (pieces_named r x.id) ((filled_at r p sound d x is).0 inside).0 in
      let k = filter_kept (names_parcel x.id) r.pieces one.index one.item one.at in
      All-contains (λ (y : Piece). IsInPiece p y → ⊥) r.pieces one.item none (among_at r.pieces k.index one.item k.at) one.has);
}

-- so it is at each point
pub all_parted : (r : Contents) (ps : List Given) → IsSoundMap r → IsRegion r → All (λ (g : Given). g.at.d ≡ parts) ps → (g : Given) → IsAmong ps g → IsParted r g.at
all_parted r ps sound region all g among = is_parted r g.at sound region (some (All-contains (λ (v : Given). v.at.d ≡ parts) ps g all among))
  where
    some : {d : ℤ} → d ≡ parts → pos 0 <ℤ d
    some e = omega (arith, ints, e)
