-- Two parcels with a strip between them are a sound map, at every rational point.
use Rattle.std.proofs.Common.{◌≡◌, ℤ, pos, ◌*ℤ◌, ◌≤ℤ◌, ◌<ℤ◌, [], ◌∷◌, ◌↔◌, refl, arith, All}
use Rattle.std.proofs.lemmas.Int.{ints}
use Rattle.std.proofs.lemmas.List.Elements.{All-cons, All-nil}
use Rattle.lpis_points.specs.Plane.{RationalPoint}
use Rattle.lpis_rings.specs.Area.{area2}
use Rattle.lpis_rings.specs.Edges.{turns}
use Rattle.lpis_tables.specs.declared.piece.Piece.{Piece}
use Rattle.lpis_tables.specs.Percentages.{most_percent}
use Rattle.lpis_release.specs.declared.parcel.Parcel.{Parcel}
use Rattle.lpis_release.specs.Release.{pieces_named}
use Rattle.lpis_release.specs.Weighted.{areas2, weighted2}
use Rattle.lpis_edge_sums.specs.Counting.{AtMostOne, ExactlyOne}
use Rattle.lpis_checker.specs.SoundMap.{AreasAdd, IsInParcel, IsInPiece, IsSoundMap, TurnsTell}
use Rattle.lpis_examples.specs.Shapes.{IsWithin}
use Rattle.lpis_examples.specs.Releases.{far_crop, far_field, farm, pasture, with_strip}
use Rattle.lpis_examples.proofs.BoxLemmas.{far_field_is, inside, square_is, tell}
use Rattle.lpis_examples.proofs.ListLemmas.{any_of_one, at_most_cons, at_most_nil}

strip_between : (x d : ℤ) → pos 0 <ℤ d → x <ℤ (pos 4 *ℤ d) → (pos 5 *ℤ d) ≤ℤ x → ⊥
strip_between x d h k l = omega (arith, ints)

-- ---- one point
module _ (p : RationalPoint) (h : pos 0 <ℤ p.d) where
  in_farm : IsInParcel p farm ↔ IsWithin 0 0 4 4 p
  in_farm = inside 0 0 4 4 square_is p h

  in_far_field : IsInParcel p far_field ↔ IsWithin 5 0 8 4 p
  in_far_field = inside 5 0 8 4 far_field_is p h

  parted : IsInParcel p farm → IsInParcel p far_field → ⊥
  parted a b = strip_between p.x p.d h (in_farm.0 a).1 (in_far_field.0 b).0

  abbrev Out : Piece → Type 0
  Out y = IsInPiece p y → ⊥

  alone : (x : Piece) → AtMostOne (IsInPiece p) (x ∷ [])
  alone x = at_most_cons (IsInPiece p) x [] (λ a. All-nil Out) (at_most_nil (IsInPiece p))

  one_piece : AtMostOne (IsInPiece p) (pasture ∷ far_crop ∷ [])
  one_piece = at_most_cons (IsInPiece p) pasture (far_crop ∷ []) (λ a. All-cons Out far_crop [] (parted a) (All-nil Out)) (alone far_crop)

  abbrev Outside : Parcel → Type 0
  Outside k = IsInParcel p k → ⊥

  one_parcel : AtMostOne (IsInParcel p) (farm ∷ far_field ∷ [])
  one_parcel =
      at_most_cons (IsInParcel p) farm (far_field ∷ []) (λ a. All-cons Outside far_field [] (parted a) (All-nil Outside))
      (at_most_cons (IsInParcel p) far_field [] (λ a. All-nil Outside) (at_most_nil (IsInParcel p)))

  filled : All (λ (k : Parcel). IsInParcel p k ↔ ExactlyOne (IsInPiece p) (pieces_named with_strip k.id)) (farm ∷ far_field ∷ [])
  filled =
      let R : Parcel → Type 0 = λ k. IsInParcel p k ↔ ExactlyOne (IsInPiece p) (pieces_named with_strip k.id) in
      All-cons R farm (far_field ∷ []) (λ a. ((0, pasture, omega arith, refl, a), alone pasture), λ o. any_of_one (IsInPiece p) pasture (IsInParcel p farm) (λ a. a) o.0)
      (All-cons R far_field [] (λ a. ((0, far_crop, omega arith, refl, a), alone far_crop), λ o. any_of_one (IsInPiece p) far_crop (IsInParcel p far_field) (λ a. a) o.0) (All-nil R))

  pieces_turn : All (λ (x : Piece). TurnsTell (IsInPiece p x) (turns x.polygon p)) (pasture ∷ far_crop ∷ [])
  pieces_turn =
      let R : Piece → Type 0 = λ x. TurnsTell (IsInPiece p x) (turns x.polygon p) in
      All-cons R pasture (far_crop ∷ []) (tell 0 0 4 4 square_is p h) (All-cons R far_crop [] (tell 5 0 8 4 far_field_is p h) (All-nil R))

  parcels_turn : All (λ (k : Parcel). TurnsTell (IsInParcel p k) (turns k.polygon p)) (farm ∷ far_field ∷ [])
  parcels_turn =
      let R : Parcel → Type 0 = λ k. TurnsTell (IsInParcel p k) (turns k.polygon p) in
      All-cons R farm (far_field ∷ []) (tell 0 0 4 4 square_is p h) (All-cons R far_field [] (tell 5 0 8 4 far_field_is p h) (All-nil R))

-- ---- areas
thirty_two : pos 0 <ℤ pos 32
thirty_two = omega (arith, ints)

twenty_four : pos 0 <ℤ pos 24
twenty_four = omega (arith, ints)

all_of_farm : (pos 0 ≤ℤ pos 3200) × (pos 3200 ≤ℤ pos 3200)
all_of_farm = (omega (arith, ints), omega (arith, ints))

all_of_field : (pos 0 ≤ℤ pos 2400) × (pos 2400 ≤ℤ pos 2400)
all_of_field = (omega (arith, ints), omega (arith, ints))

areas : AreasAdd with_strip
areas =
    let P : Piece → Type 0 = λ x. pos 0 <ℤ area2 x.polygon in
    let Q : Parcel → Type 0 = λ k. area2 k.polygon ≡ areas2 (pieces_named with_strip k.id) in
    let R : Parcel → Type 0 = λ k. (pos 0 ≤ℤ weighted2 with_strip k.id) × (weighted2 with_strip k.id ≤ℤ (pos most_percent *ℤ area2 k.polygon)) in
    record {
      pieces = All-cons P pasture (far_crop ∷ []) thirty_two (All-cons P far_crop [] twenty_four (All-nil P));
      parcels = All-cons Q farm (far_field ∷ []) refl (All-cons Q far_field [] refl (All-nil Q));
      weighted = All-cons R farm (far_field ∷ []) all_of_farm (All-cons R far_field [] all_of_field (All-nil R));
    }

-- ---- the whole
pub strip_is_sound : IsSoundMap with_strip
strip_is_sound = record {
  off = record { one_parcel = λ p h off. one_parcel p h; filled = λ p h off. filled p h };
  everywhere = record { one_piece = one_piece; one_parcel = one_parcel; filled = filled };
  turns = record { pieces = pieces_turn; parcels = parcels_turn };
  areas = areas;
}
