-- The two parcels are a sound map, at every rational point.
use Rattle.std.proofs.Common.{◌≡◌, ℤ, pos, ◌*ℤ◌, ◌≤ℤ◌, ◌<ℤ◌, [], ◌∷◌, ◌↔◌, refl, arith, All}
use Rattle.std.proofs.lemmas.Int.{by_lt_z, ints}
use Rattle.std.proofs.lemmas.List.Elements.{All-cons, All-nil}
use Rattle.lpis_points.specs.Plane.{RationalPoint}
use Rattle.lpis_rings.specs.Area.{area2}
use Rattle.lpis_rings.specs.Edges.{turns}
use Rattle.lpis_tables.specs.declared.piece.Piece.{Piece}
use Rattle.lpis_tables.specs.Percentages.{most_percent}
use Rattle.lpis_release.specs.declared.parcel.Parcel.{Parcel}
use Rattle.lpis_release.specs.Release.{pieces_named}
use Rattle.lpis_release.specs.Weighted.{areas2, weighted2}
use Rattle.lpis_edge_sums.specs.Counting.{AtMostOne, ExactlyOne}
use Rattle.lpis_checker.specs.SoundMap.{AreasAdd, IsInParcel, IsInPiece, IsSoundMap, TurnsTell}
use Rattle.lpis_examples.specs.Shapes.{IsWithin}
use Rattle.lpis_examples.specs.Releases.{crop, farm, field, meadow, nothing, two_parcels, wood}
use Rattle.lpis_examples.proofs.BoxLemmas.{field_is, inside, meadow_is, square_is, tell, wood_is}
use Rattle.lpis_examples.proofs.ListLemmas.{any_of_one, any_of_two, at_most_cons, at_most_nil}

-- ---- rectangles side by side
two_two : (x d : ℤ) → pos 0 <ℤ d → x <ℤ (pos 2 *ℤ d) → (pos 2 *ℤ d) ≤ℤ x → ⊥
two_two x d h k l = omega (arith, ints)

two_four : (x d : ℤ) → pos 0 <ℤ d → x <ℤ (pos 2 *ℤ d) → (pos 4 *ℤ d) ≤ℤ x → ⊥
two_four x d h k l = omega (arith, ints)

four_four : (x d : ℤ) → pos 0 <ℤ d → x <ℤ (pos 4 *ℤ d) → (pos 4 *ℤ d) ≤ℤ x → ⊥
four_four x d h k l = omega (arith, ints)

up_to_four : (x d : ℤ) → pos 0 <ℤ d → x <ℤ (pos 2 *ℤ d) → x <ℤ (pos 4 *ℤ d)
up_to_four x d h k = omega (arith, ints)

from_nought : (x d : ℤ) → pos 0 <ℤ d → (pos 2 *ℤ d) ≤ℤ x → (pos 0 *ℤ d) ≤ℤ x
from_nought x d h k = omega (arith, ints)

-- ---- one point
module _ (p : RationalPoint) (h : pos 0 <ℤ p.d) where
  in_meadow : IsInPiece p meadow ↔ IsWithin 0 0 2 4 p
  in_meadow = inside 0 0 2 4 meadow_is p h

  in_wood : IsInPiece p wood ↔ IsWithin 2 0 4 4 p
  in_wood = inside 2 0 4 4 wood_is p h

  in_crop : IsInPiece p crop ↔ IsWithin 4 0 8 4 p
  in_crop = inside 4 0 8 4 field_is p h

  in_farm : IsInParcel p farm ↔ IsWithin 0 0 4 4 p
  in_farm = inside 0 0 4 4 square_is p h

  in_field : IsInParcel p field ↔ IsWithin 4 0 8 4 p
  in_field = inside 4 0 8 4 field_is p h

  abbrev Out : Piece → Type 0
  Out y = IsInPiece p y → ⊥

  meadow_alone : IsInPiece p meadow → Out wood
  meadow_alone a b = two_two p.x p.d h (in_meadow.0 a).1 (in_wood.0 b).0

  meadow_and_crop : IsInPiece p meadow → Out crop
  meadow_and_crop a b = two_four p.x p.d h (in_meadow.0 a).1 (in_crop.0 b).0

  wood_and_crop : IsInPiece p wood → Out crop
  wood_and_crop a b = four_four p.x p.d h (in_wood.0 a).1 (in_crop.0 b).0

  one_piece : AtMostOne (IsInPiece p) (meadow ∷ wood ∷ crop ∷ [])
  one_piece =
      at_most_cons (IsInPiece p) meadow (wood ∷ crop ∷ []) (λ a. All-cons Out wood (crop ∷ []) (meadow_alone a) (All-cons Out crop [] (meadow_and_crop a) (All-nil Out)))
      (at_most_cons (IsInPiece p) wood (crop ∷ []) (λ a. All-cons Out crop [] (wood_and_crop a) (All-nil Out))
      (at_most_cons (IsInPiece p) crop [] (λ a. All-nil Out) (at_most_nil (IsInPiece p))))

  abbrev Outside : Parcel → Type 0
  Outside k = IsInParcel p k → ⊥

  one_parcel : AtMostOne (IsInParcel p) (farm ∷ field ∷ [])
  one_parcel =
      at_most_cons (IsInParcel p) farm (field ∷ []) (λ a. All-cons Outside field [] (λ b. four_four p.x p.d h (in_farm.0 a).1 (in_field.0 b).0) (All-nil Outside))
      (at_most_cons (IsInParcel p) field [] (λ a. All-nil Outside) (at_most_nil (IsInParcel p)))

  one_of_farm : AtMostOne (IsInPiece p) (meadow ∷ wood ∷ [])
  one_of_farm =
      at_most_cons (IsInPiece p) meadow (wood ∷ []) (λ a. All-cons Out wood [] (meadow_alone a) (All-nil Out))
      (at_most_cons (IsInPiece p) wood [] (λ a. All-nil Out) (at_most_nil (IsInPiece p)))

  one_of_field : AtMostOne (IsInPiece p) (crop ∷ [])
  one_of_field = at_most_cons (IsInPiece p) crop [] (λ a. All-nil Out) (at_most_nil (IsInPiece p))

  fills_farm : IsInParcel p farm → ExactlyOne (IsInPiece p) (meadow ∷ wood ∷ [])
  fills_farm a =
      let f = in_farm.0 a in
      by_lt_z p.x (pos 2 *ℤ p.d) (λ west. ((0, meadow, omega arith, refl, in_meadow.1 (f.0, west, f.2, f.3)), one_of_farm))
      (λ east. ((1, wood, omega arith, refl, in_wood.1 (east, f.1, f.2, f.3)), one_of_farm))

  within_farm : ExactlyOne (IsInPiece p) (meadow ∷ wood ∷ []) → IsInParcel p farm
  within_farm o =
      any_of_two (IsInPiece p) meadow wood (IsInParcel p farm)
      (λ a. let m = in_meadow.0 a in in_farm.1 (m.0, up_to_four p.x p.d h m.1, m.2, m.3))
      (λ a. let w = in_wood.0 a in in_farm.1 (from_nought p.x p.d h w.0, w.1, w.2, w.3)) o.0

  filled : All (λ (k : Parcel). IsInParcel p k ↔ ExactlyOne (IsInPiece p) (pieces_named two_parcels k.id)) (farm ∷ field ∷ [])
  filled =
      let R : Parcel → Type 0 = λ k. IsInParcel p k ↔ ExactlyOne (IsInPiece p) (pieces_named two_parcels k.id) in
      All-cons R farm (field ∷ []) (fills_farm, within_farm)
      (All-cons R field [] (λ a. ((0, crop, omega arith, refl, a), one_of_field), λ o. any_of_one (IsInPiece p) crop (IsInParcel p field) (λ a. a) o.0) (All-nil R))

  pieces_turn : All (λ (x : Piece). TurnsTell (IsInPiece p x) (turns x.polygon p)) (meadow ∷ wood ∷ crop ∷ [])
  pieces_turn =
      let R : Piece → Type 0 = λ x. TurnsTell (IsInPiece p x) (turns x.polygon p) in
      All-cons R meadow (wood ∷ crop ∷ []) (tell 0 0 2 4 meadow_is p h) (All-cons R wood (crop ∷ []) (tell 2 0 4 4 wood_is p h) (All-cons R crop [] (tell 4 0 8 4 field_is p h) (All-nil R)))

  parcels_turn : All (λ (k : Parcel). TurnsTell (IsInParcel p k) (turns k.polygon p)) (farm ∷ field ∷ [])
  parcels_turn =
      let R : Parcel → Type 0 = λ k. TurnsTell (IsInParcel p k) (turns k.polygon p) in
      All-cons R farm (field ∷ []) (tell 0 0 4 4 square_is p h) (All-cons R field [] (tell 4 0 8 4 field_is p h) (All-nil R))

-- ---- areas
sixteen : pos 0 <ℤ pos 16
sixteen = omega (arith, ints)

thirty_two : pos 0 <ℤ pos 32
thirty_two = omega (arith, ints)

part : (pos 0 ≤ℤ pos 2400) × (pos 2400 ≤ℤ pos 3200)
part = (omega (arith, ints), omega (arith, ints))

whole : (pos 0 ≤ℤ pos 3200) × (pos 3200 ≤ℤ pos 3200)
whole = (omega (arith, ints), omega (arith, ints))

areas : AreasAdd two_parcels
areas =
    let P : Piece → Type 0 = λ x. pos 0 <ℤ area2 x.polygon in
    let Q : Parcel → Type 0 = λ k. area2 k.polygon ≡ areas2 (pieces_named two_parcels k.id) in
    let R : Parcel → Type 0 = λ k. (pos 0 ≤ℤ weighted2 two_parcels k.id) × (weighted2 two_parcels k.id ≤ℤ (pos most_percent *ℤ area2 k.polygon)) in
    record {
      pieces = All-cons P meadow (wood ∷ crop ∷ []) sixteen (All-cons P wood (crop ∷ []) sixteen (All-cons P crop [] thirty_two (All-nil P)));
      parcels = All-cons Q farm (field ∷ []) refl (All-cons Q field [] refl (All-nil Q));
      weighted = All-cons R farm (field ∷ []) part (All-cons R field [] whole (All-nil R));
    }

-- ---- the whole
pub two_parcels_are_sound : IsSoundMap two_parcels
two_parcels_are_sound = record {
  off = record { one_parcel = λ p h off. one_parcel p h; filled = λ p h off. filled p h };
  everywhere = record { one_piece = one_piece; one_parcel = one_parcel; filled = filled };
  turns = record { pieces = pieces_turn; parcels = parcels_turn };
  areas = areas;
}

-- a map of nothing
pub nothing_is_sound : IsSoundMap nothing
nothing_is_sound = record {
  off = record { one_parcel = λ p h off. at_most_nil (IsInParcel p); filled = λ p h off. All-nil (λ (k : Parcel). IsInParcel p k ↔ ExactlyOne (IsInPiece p) (pieces_named nothing k.id)) };
  everywhere = record {
    one_piece = λ p h. at_most_nil (IsInPiece p);
    one_parcel = λ p h. at_most_nil (IsInParcel p);
    filled = λ p h. All-nil (λ (k : Parcel). IsInParcel p k ↔ ExactlyOne (IsInPiece p) (pieces_named nothing k.id));
  };
  turns = record {
    pieces = λ p h. All-nil (λ (x : Piece). TurnsTell (IsInPiece p x) (turns x.polygon p));
    parcels = λ p h. All-nil (λ (k : Parcel). TurnsTell (IsInParcel p k) (turns k.polygon p));
  };
  areas = record {
    pieces = All-nil (λ (x : Piece). pos 0 <ℤ area2 x.polygon);
    parcels = All-nil (λ (k : Parcel). area2 k.polygon ≡ areas2 (pieces_named nothing k.id));
    weighted = All-nil (λ (k : Parcel). (pos 0 ≤ℤ weighted2 nothing k.id) × (weighted2 nothing k.id ≤ℤ (pos most_percent *ℤ area2 k.polygon)));
  };
}
