-- A parcel of two parts, an island in the hole of one of them, and a parcel that meets both parts at corners, are a sound map.
use Rattle.std.proofs.Common.{◌≡◌, ℤ, pos, neg_ℤ, ◌+ℤ◌, ◌*ℤ◌, ◌≤ℤ◌, ◌<ℤ◌, List, [], ◌∷◌, inl, inr, ◌⊎◌, ◌↔◌, refl, sym, subst, arith, All}
use Rattle.std.proofs.lemmas.Int.{ints}
use Rattle.std.proofs.lemmas.List.Elements.{All-cons, All-nil}
use Rattle.lpis_points.specs.Plane.{RationalPoint, crossing}
use Rattle.lpis_points.proofs.Shared.{crossing-odd}
use Rattle.lpis_rings.specs.declared.polygon.Member.{Member}
use Rattle.lpis_rings.specs.Area.{area2}
use Rattle.lpis_rings.specs.Edges.{Contains, hole_edges, shell_edges, turns}
use Rattle.lpis_rings.proofs.Shared.{contains_by_one_turn}
use Rattle.lpis_tables.specs.declared.piece.Piece.{Piece}
use Rattle.lpis_tables.specs.Percentages.{most_percent}
use Rattle.lpis_release.specs.declared.parcel.Parcel.{Parcel}
use Rattle.lpis_release.specs.Release.{pieces_named}
use Rattle.lpis_release.specs.Weighted.{areas2, weighted2}
use Rattle.lpis_edge_sums.specs.Counting.{AtMostOne, ExactlyOne}
use Rattle.lpis_checker.specs.SoundMap.{AreasAdd, IsInParcel, IsInPiece, IsSoundMap, TurnsTell}
use Rattle.lpis_examples.specs.Shapes.{IsWithin, box, corner, frame, land}
use Rattle.lpis_examples.specs.Releases.{first_part, island, island_crop, parted_farm, second_part, upper_crop, upper_field, with_island}
use Rattle.lpis_examples.proofs.BoxLemmas.{Told, contained, far_part_is, hole_is, square_is, upper_is}
use Rattle.lpis_examples.proofs.ListLemmas.{any_of_one, any_of_two, at_most_cons, at_most_nil}

-- ---- a hole, and two parts
-- a hole turns the other way than its ring, of which it has the edges backwards
without_hole : (a b c d e f g h e' f' g' h' : ℤ) → e ≡ neg_ℤ h' → f ≡ neg_ℤ g' → g ≡ neg_ℤ f' → h ≡ neg_ℤ e'
    → a +ℤ (b +ℤ (c +ℤ (d +ℤ (e +ℤ (f +ℤ (g +ℤ (h +ℤ pos 0))))))) ≡ (a +ℤ (b +ℤ (c +ℤ (d +ℤ pos 0)))) +ℤ neg_ℤ (e' +ℤ (f' +ℤ (g' +ℤ (h' +ℤ pos 0))))
without_hole a b c d e f g h e' f' g' h' i j k l = omega (arith, ints, i, j, k, l)

frame_turns : (p : RationalPoint) → turns frame p ≡ turns (land (box 0 0 4 4)) p +ℤ neg_ℤ (turns (land (box 1 1 3 3)) p)
unfolding shell_edges hole_edges
frame_turns p =
    let r = (crossing-odd p).reversed in
    without_hole (crossing (corner 0 0) (corner 4 0) p) (crossing (corner 4 0) (corner 4 4) p) (crossing (corner 4 4) (corner 0 4) p) (crossing (corner 0 4) (corner 0 0) p)
    (crossing (corner 1 1) (corner 1 3) p) (crossing (corner 1 3) (corner 3 3) p) (crossing (corner 3 3) (corner 3 1) p) (crossing (corner 3 1) (corner 1 1) p)
    (crossing (corner 1 1) (corner 3 1) p) (crossing (corner 3 1) (corner 3 3) p) (crossing (corner 3 3) (corner 1 3) p) (crossing (corner 1 3) (corner 1 1) p)
    (r (corner 1 3) (corner 1 1)) (r (corner 3 3) (corner 1 3)) (r (corner 3 1) (corner 3 3)) (r (corner 1 1) (corner 3 1))

with_part : (a b c d e f g h i j k l : ℤ)
    → a +ℤ (b +ℤ (c +ℤ (d +ℤ (e +ℤ (f +ℤ (g +ℤ (h +ℤ (i +ℤ (j +ℤ (k +ℤ (l +ℤ pos 0))))))))))) ≡ (a +ℤ (b +ℤ (c +ℤ (d +ℤ (e +ℤ (f +ℤ (g +ℤ (h +ℤ pos 0)))))))) +ℤ (i +ℤ (j +ℤ (k +ℤ (l +ℤ pos 0))))
with_part a b c d e f g h i j k l = omega (arith, ints)

farm_turns : (p : RationalPoint) → turns parted_farm.polygon p ≡ turns frame p +ℤ turns (land (box 8 0 12 4)) p
unfolding shell_edges hole_edges
farm_turns p =
    with_part (crossing (corner 0 0) (corner 4 0) p) (crossing (corner 4 0) (corner 4 4) p) (crossing (corner 4 4) (corner 0 4) p) (crossing (corner 0 4) (corner 0 0) p)
    (crossing (corner 1 1) (corner 1 3) p) (crossing (corner 1 3) (corner 3 3) p) (crossing (corner 3 3) (corner 3 1) p) (crossing (corner 3 1) (corner 1 1) p)
    (crossing (corner 8 0) (corner 12 0) p) (crossing (corner 12 0) (corner 12 4) p) (crossing (corner 12 4) (corner 8 4) p) (crossing (corner 8 4) (corner 8 0) p)

-- what turns as the one less the other contains the points of the one that are not in the other
holed : {W V : Type 0} (m n : ℤ) → (V → W) → Told m W → Told n V → Told (m +ℤ neg_ℤ n) (W × (V → ⊥))
holed m n v (inl a) (inl b) = inr (omega (arith, ints, a.0, b.0), λ q. q.1 b.1)
holed m n v (inl a) (inr b) = inl (omega (arith, ints, a.0, b.0), (a.1, b.1))
holed m n v (inr a) (inl b) = absurd (a.1 (v b.1))
holed m n v (inr a) (inr b) = inr (omega (arith, ints, a.0, b.0), λ q. a.1 q.0)

-- what turns as both together contains the points of both
joined : {W V : Type 0} (m n : ℤ) → (W → V → ⊥) → Told m W → Told n V → Told (m +ℤ n) (W ⊎ V)
joined m n v (inl a) (inl b) = absurd (v a.1 b.1)
joined m n v (inl a) (inr b) = inl (omega (arith, ints, a.0, b.0), inl a.1)
joined m n v (inr a) (inl b) = inl (omega (arith, ints, a.0, b.0), inr b.1)
joined {W} {V} m n v (inr a) (inr b) = inr (omega (arith, ints, a.0, b.0), none)
  where
    none : W ⊎ V → ⊥
    none (inl w) = a.1 w
    none (inr w) = b.1 w

clockwise_turns : (p : RationalPoint) → turns island.polygon p ≡ turns (land (box 1 1 3 3)) p
unfolding shell_edges
clockwise_turns p = refl

told_turns : {W : Type 0} (ms : List Member) (p : RationalPoint) → Told (turns ms p) W → TurnsTell (Contains ms p) (turns ms p)
told_turns ms p (inl q) = (inr q.0, contains_by_one_turn ms p (inr q.0))
told_turns ms p (inr q) = (inl q.0, contains_by_one_turn ms p (inl q.0))

-- ---- where they lie
four_four : (x d : ℤ) → pos 0 <ℤ d → x <ℤ (pos 4 *ℤ d) → (pos 4 *ℤ d) ≤ℤ x → ⊥
four_four x d h k l = omega (arith, ints)

four_eight : (x d : ℤ) → pos 0 <ℤ d → x <ℤ (pos 4 *ℤ d) → (pos 8 *ℤ d) ≤ℤ x → ⊥
four_eight x d h k l = omega (arith, ints)

three_four : (x d : ℤ) → pos 0 <ℤ d → x <ℤ (pos 3 *ℤ d) → (pos 4 *ℤ d) ≤ℤ x → ⊥
three_four x d h k l = omega (arith, ints)

three_eight : (x d : ℤ) → pos 0 <ℤ d → x <ℤ (pos 3 *ℤ d) → (pos 8 *ℤ d) ≤ℤ x → ⊥
three_eight x d h k l = omega (arith, ints)

eight_eight : (x d : ℤ) → pos 0 <ℤ d → x <ℤ (pos 8 *ℤ d) → (pos 8 *ℤ d) ≤ℤ x → ⊥
eight_eight x d h k l = omega (arith, ints)

from_nought : (x d : ℤ) → pos 0 <ℤ d → (pos 1 *ℤ d) ≤ℤ x → (pos 0 *ℤ d) ≤ℤ x
from_nought x d h k = omega (arith, ints)

up_to_four : (x d : ℤ) → pos 0 <ℤ d → x <ℤ (pos 3 *ℤ d) → x <ℤ (pos 4 *ℤ d)
up_to_four x d h k = omega (arith, ints)

-- ---- one point
module _ (p : RationalPoint) (h : pos 0 <ℤ p.d) where
  abbrev Round : Type 0
  Round = IsWithin 0 0 4 4 p × (IsWithin 1 1 3 3 p → ⊥)

  in_hole_in_square : IsWithin 1 1 3 3 p → IsWithin 0 0 4 4 p
  in_hole_in_square w = (from_nought p.x p.d h w.0, up_to_four p.x p.d h w.1, from_nought p.y p.d h w.2, up_to_four p.y p.d h w.3)

  frame_told : Told (turns frame p) Round
  frame_told =
      let m = turns (land (box 0 0 4 4)) p in
      let n = turns (land (box 1 1 3 3)) p in
      subst (λ (z : ℤ). Told z Round) (sym (frame_turns p)) (holed m n in_hole_in_square (square_is p h) (hole_is p h))

  farm_told : Told (turns parted_farm.polygon p) (Round ⊎ IsWithin 8 0 12 4 p)
  farm_told =
      subst (λ (z : ℤ). Told z (Round ⊎ IsWithin 8 0 12 4 p)) (sym (farm_turns p))
      (joined (turns frame p) (turns (land (box 8 0 12 4)) p) (λ w v. four_eight p.x p.d h w.0.1 v.0) frame_told (far_part_is p h))

  in_first : IsInPiece p first_part ↔ Round
  in_first = contained (turns frame p) (Contains frame p) (contains_by_one_turn frame p) frame_told

  in_second : IsInPiece p second_part ↔ IsWithin 8 0 12 4 p
  in_second = let ms = land (box 8 0 12 4) in contained (turns ms p) (Contains ms p) (contains_by_one_turn ms p) (far_part_is p h)

  in_island : IsInPiece p island_crop ↔ IsWithin 1 1 3 3 p
  in_island = let ms = land (box 1 1 3 3) in contained (turns ms p) (Contains ms p) (contains_by_one_turn ms p) (hole_is p h)

  in_upper : IsInPiece p upper_crop ↔ IsWithin 4 4 8 8 p
  in_upper = let ms = land (box 4 4 8 8) in contained (turns ms p) (Contains ms p) (contains_by_one_turn ms p) (upper_is p h)

  in_farm : IsInParcel p parted_farm ↔ (Round ⊎ IsWithin 8 0 12 4 p)
  in_farm = let ms = parted_farm.polygon in contained (turns ms p) (Contains ms p) (contains_by_one_turn ms p) farm_told

  island_told : Told (turns island.polygon p) (IsWithin 1 1 3 3 p)
  island_told = subst (λ (z : ℤ). Told z (IsWithin 1 1 3 3 p)) (sym (clockwise_turns p)) (hole_is p h)

  in_isle : IsInParcel p island ↔ IsWithin 1 1 3 3 p
  in_isle = let ms = island.polygon in contained (turns ms p) (Contains ms p) (contains_by_one_turn ms p) island_told

  abbrev Out : Piece → Type 0
  Out y = IsInPiece p y → ⊥

  first_and_second : IsInPiece p first_part → Out second_part
  first_and_second a b = four_eight p.x p.d h (in_first.0 a).0.1 (in_second.0 b).0

  first_and_island : IsInPiece p first_part → Out island_crop
  first_and_island a b = (in_first.0 a).1 (in_island.0 b)

  first_and_upper : IsInPiece p first_part → Out upper_crop
  first_and_upper a b = four_four p.x p.d h (in_first.0 a).0.1 (in_upper.0 b).0

  second_and_island : IsInPiece p second_part → Out island_crop
  second_and_island a b = three_eight p.x p.d h (in_island.0 b).1 (in_second.0 a).0

  second_and_upper : IsInPiece p second_part → Out upper_crop
  second_and_upper a b = eight_eight p.x p.d h (in_upper.0 b).1 (in_second.0 a).0

  island_and_upper : IsInPiece p island_crop → Out upper_crop
  island_and_upper a b = three_four p.x p.d h (in_island.0 a).1 (in_upper.0 b).0

  alone : (x : Piece) → AtMostOne (IsInPiece p) (x ∷ [])
  alone x = at_most_cons (IsInPiece p) x [] (λ a. All-nil Out) (at_most_nil (IsInPiece p))

  one_piece : AtMostOne (IsInPiece p) (first_part ∷ second_part ∷ island_crop ∷ upper_crop ∷ [])
  one_piece =
      at_most_cons (IsInPiece p) first_part (second_part ∷ island_crop ∷ upper_crop ∷ [])
      (λ a. All-cons Out second_part (island_crop ∷ upper_crop ∷ []) (first_and_second a)
      (All-cons Out island_crop (upper_crop ∷ []) (first_and_island a) (All-cons Out upper_crop [] (first_and_upper a) (All-nil Out))))
      (at_most_cons (IsInPiece p) second_part (island_crop ∷ upper_crop ∷ [])
      (λ a. All-cons Out island_crop (upper_crop ∷ []) (second_and_island a) (All-cons Out upper_crop [] (second_and_upper a) (All-nil Out)))
      (at_most_cons (IsInPiece p) island_crop (upper_crop ∷ []) (λ a. All-cons Out upper_crop [] (island_and_upper a) (All-nil Out)) (alone upper_crop)))

  one_of_farm : AtMostOne (IsInPiece p) (first_part ∷ second_part ∷ [])
  one_of_farm = at_most_cons (IsInPiece p) first_part (second_part ∷ []) (λ a. All-cons Out second_part [] (first_and_second a) (All-nil Out)) (alone second_part)

  fills_farm : Round ⊎ IsWithin 8 0 12 4 p → ExactlyOne (IsInPiece p) (first_part ∷ second_part ∷ [])
  fills_farm (inl w) = ((0, first_part, omega arith, refl, in_first.1 w), one_of_farm)
  fills_farm (inr w) = ((1, second_part, omega arith, refl, in_second.1 w), one_of_farm)

  within_farm : ExactlyOne (IsInPiece p) (first_part ∷ second_part ∷ []) → IsInParcel p parted_farm
  within_farm o = any_of_two (IsInPiece p) first_part second_part (IsInParcel p parted_farm) (λ a. in_farm.1 (inl (in_first.0 a))) (λ a. in_farm.1 (inr (in_second.0 a))) o.0

  abbrev Outside : Parcel → Type 0
  Outside k = IsInParcel p k → ⊥

  farm_and_island : Round ⊎ IsWithin 8 0 12 4 p → Outside island
  farm_and_island (inl w) b = w.1 (in_isle.0 b)
  farm_and_island (inr w) b = three_eight p.x p.d h (in_isle.0 b).1 w.0

  farm_and_upper : Round ⊎ IsWithin 8 0 12 4 p → Outside upper_field
  farm_and_upper (inl w) b = four_four p.x p.d h w.0.1 (in_upper.0 b).0
  farm_and_upper (inr w) b = eight_eight p.x p.d h (in_upper.0 b).1 w.0

  one_parcel : AtMostOne (IsInParcel p) (parted_farm ∷ island ∷ upper_field ∷ [])
  one_parcel =
      at_most_cons (IsInParcel p) parted_farm (island ∷ upper_field ∷ [])
      (λ a. All-cons Outside island (upper_field ∷ []) (farm_and_island (in_farm.0 a)) (All-cons Outside upper_field [] (farm_and_upper (in_farm.0 a)) (All-nil Outside)))
      (at_most_cons (IsInParcel p) island (upper_field ∷ []) (λ a. All-cons Outside upper_field [] (island_and_upper (in_island.1 (in_isle.0 a))) (All-nil Outside))
      (at_most_cons (IsInParcel p) upper_field [] (λ a. All-nil Outside) (at_most_nil (IsInParcel p))))

  filled : All (λ (k : Parcel). IsInParcel p k ↔ ExactlyOne (IsInPiece p) (pieces_named with_island k.id)) (parted_farm ∷ island ∷ upper_field ∷ [])
  filled =
      let R : Parcel → Type 0 = λ k. IsInParcel p k ↔ ExactlyOne (IsInPiece p) (pieces_named with_island k.id) in
      All-cons R parted_farm (island ∷ upper_field ∷ []) (λ a. fills_farm (in_farm.0 a), within_farm)
      (All-cons R island (upper_field ∷ []) (
        λ a. ((0, island_crop, omega arith, refl, in_island.1 (in_isle.0 a)), alone island_crop),
        λ o. any_of_one (IsInPiece p) island_crop (IsInParcel p island) (λ a. in_isle.1 (in_island.0 a)) o.0,
      )
      (All-cons R upper_field [] (λ a. ((0, upper_crop, omega arith, refl, a), alone upper_crop), λ o. any_of_one (IsInPiece p) upper_crop (IsInParcel p upper_field) (λ a. a) o.0) (All-nil R)))

  pieces_turn : All (λ (x : Piece). TurnsTell (IsInPiece p x) (turns x.polygon p)) (first_part ∷ second_part ∷ island_crop ∷ upper_crop ∷ [])
  pieces_turn =
      let R : Piece → Type 0 = λ x. TurnsTell (IsInPiece p x) (turns x.polygon p) in
      All-cons R first_part (second_part ∷ island_crop ∷ upper_crop ∷ []) (told_turns frame p frame_told)
      (All-cons R second_part (island_crop ∷ upper_crop ∷ []) (told_turns (land (box 8 0 12 4)) p (far_part_is p h))
      (All-cons R island_crop (upper_crop ∷ []) (told_turns (land (box 1 1 3 3)) p (hole_is p h))
      (All-cons R upper_crop [] (told_turns (land (box 4 4 8 8)) p (upper_is p h)) (All-nil R))))

  parcels_turn : All (λ (k : Parcel). TurnsTell (IsInParcel p k) (turns k.polygon p)) (parted_farm ∷ island ∷ upper_field ∷ [])
  parcels_turn =
      let R : Parcel → Type 0 = λ k. TurnsTell (IsInParcel p k) (turns k.polygon p) in
      All-cons R parted_farm (island ∷ upper_field ∷ []) (told_turns parted_farm.polygon p farm_told)
      (All-cons R island (upper_field ∷ []) (told_turns island.polygon p island_told)
      (All-cons R upper_field [] (told_turns (land (box 4 4 8 8)) p (upper_is p h)) (All-nil R)))

-- ---- areas
above : (pos 0 <ℤ pos 24) × (pos 0 <ℤ pos 32) × (pos 0 <ℤ pos 8)
above = (omega (arith, ints), omega (arith, ints), omega (arith, ints))

of_farm : (pos 0 ≤ℤ pos 4000) × (pos 4000 ≤ℤ pos 5600)
of_farm = (omega (arith, ints), omega (arith, ints))

of_island : (pos 0 ≤ℤ pos 800) × (pos 800 ≤ℤ pos 800)
of_island = (omega (arith, ints), omega (arith, ints))

of_field : (pos 0 ≤ℤ pos 3200) × (pos 3200 ≤ℤ pos 3200)
of_field = (omega (arith, ints), omega (arith, ints))

areas : AreasAdd with_island
areas =
    let P : Piece → Type 0 = λ x. pos 0 <ℤ area2 x.polygon in
    let Q : Parcel → Type 0 = λ k. area2 k.polygon ≡ areas2 (pieces_named with_island k.id) in
    let R : Parcel → Type 0 = λ k. (pos 0 ≤ℤ weighted2 with_island k.id) × (weighted2 with_island k.id ≤ℤ (pos most_percent *ℤ area2 k.polygon)) in
    record {
      pieces =
          All-cons P first_part (second_part ∷ island_crop ∷ upper_crop ∷ []) above.0
          (All-cons P second_part (island_crop ∷ upper_crop ∷ []) above.1 (All-cons P island_crop (upper_crop ∷ []) above.2 (All-cons P upper_crop [] above.1 (All-nil P))));
      parcels = All-cons Q parted_farm (island ∷ upper_field ∷ []) refl (All-cons Q island (upper_field ∷ []) refl (All-cons Q upper_field [] refl (All-nil Q)));
      weighted = All-cons R parted_farm (island ∷ upper_field ∷ []) of_farm (All-cons R island (upper_field ∷ []) of_island (All-cons R upper_field [] of_field (All-nil R)));
    }

-- ---- the whole
pub island_is_sound : IsSoundMap with_island
island_is_sound = record {
  off = record { one_parcel = λ p h off. one_parcel p h; filled = λ p h off. filled p h };
  everywhere = record { one_piece = one_piece; one_parcel = one_parcel; filled = filled };
  turns = record { pieces = pieces_turn; parcels = parcels_turn };
  areas = areas;
}
