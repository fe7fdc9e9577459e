-- Releases that are no sound maps, each by the place where it is wrong.
use Rattle.std.proofs.Common.{◌≡◌, ℕ, pos, negsuc, ◌<ℤ◌, [], ◌∷◌, inl, inr, ◌⊎◌, refl, arith}
use Rattle.std.specs.Prelude.{codes}
use Rattle.std.proofs.lemmas.Int.{ints}
use Rattle.std.proofs.lemmas.List.Elements.{All-nil}
use Rattle.lpis_points.specs.Plane.{crossing, orient_at}
use Rattle.lpis_rings.specs.Edges.{hole_edges, shell_edges}
use Rattle.lpis_tables.specs.declared.piece.Piece.{Piece}
use Rattle.lpis_checker.specs.SoundMap.{IsInPiece, IsSoundMap}
use Rattle.lpis_examples.specs.Shapes.{halves, place, quarters, splinter}
use Rattle.lpis_examples.specs.Releases.{between_millimetres, cancelling_parcel, cancelling_piece, crop, crop_of_farm, elsewhere, exchanged, far_splinter, farm, field, hole_outside}
use Rattle.lpis_examples.specs.Releases.{listed_twice, long_wood, meadow}
use Rattle.lpis_examples.specs.Releases.{outside_twice, overlapping, parcel, pieces_overlapping, reaching_out, same_parcel_twice, strayed, thin_cancelling_parcel}
use Rattle.lpis_examples.specs.Releases.{thin_cancelling_piece, thin_outside_twice, thin_overlap, thin_parcel_twice, with_gap, without_width}
use Rattle.lpis_examples.proofs.ListLemmas.{any_of_one, at_most_cons, at_most_nil}

nought_is_one : ◌≡◌ {A = ℕ} 0 1 → ⊥
nought_is_one e = omega (arith, e)

nought_is_two : ◌≡◌ {A = ℕ} 0 2 → ⊥
nought_is_two e = omega (arith, e)

two_is_three : ◌≡◌ {A = ℕ} 2 3 → ⊥
two_is_three e = omega (arith, e)

nothing_above : pos 0 <ℤ pos 0 → ⊥
nothing_above h = omega (arith, ints, h)

neither : (pos 2 ≡ pos 0) ⊎ (pos 2 ≡ pos 1) → ⊥
neither (inl e) = omega (arith, ints, e)
neither (inr e) = omega (arith, ints, e)

wrong_way : (negsuc 0 ≡ pos 0) ⊎ (negsuc 0 ≡ pos 1) → ⊥
wrong_way (inl e) = omega (arith, ints, e)
wrong_way (inr e) = omega (arith, ints, e)

above : pos 0 <ℤ pos 1
above = omega (arith, ints)

above_by_two : pos 0 <ℤ pos 2
above_by_two = omega (arith, ints)

above_by_four : pos 0 <ℤ pos 4
above_by_four = omega (arith, ints)

-- (3, 2) is in both parcels
pub overlapping_is_none : IsSoundMap overlapping → ⊥
unfolding crossing orient_at shell_edges
overlapping_is_none s = nought_is_two (s.everywhere.one_parcel (place 3 2) above 0 2 _ _ refl refl refl refl)

-- (3, 2) is in the parcel and in no piece
pub gap_is_none : IsSoundMap with_gap → ⊥
unfolding crossing orient_at shell_edges
gap_is_none s = any_of_one (IsInPiece (place 3 2)) meadow ⊥ nought_is_one ((s.everywhere.filled (place 3 2) above 0 farm (omega arith)).0 refl).0

-- (4.5, 2) is in a piece and in no parcel
pub reaching_out_is_none : IsSoundMap reaching_out → ⊥
unfolding crossing orient_at shell_edges
reaching_out_is_none s =
    let P = IsInPiece (halves 9 4) in
    let Q : Piece → Type 0 = λ y. P y → ⊥ in
    nought_is_one ((s.everywhere.filled (halves 9 4) above_by_two 0 farm (omega arith)).1 (
      (1, long_wood, omega arith, refl, refl),
      at_most_cons P meadow (long_wood ∷ []) (λ h. absurd (nought_is_one h)) (at_most_cons P long_wood [] (λ h. All-nil Q) (at_most_nil P)),
    ))

-- (2, 2) is in both pieces of the parcel
pub pieces_overlapping_is_none : IsSoundMap pieces_overlapping → ⊥
unfolding crossing orient_at shell_edges
pieces_overlapping_is_none s = nought_is_one (((s.everywhere.filled (place 2 2) above 0 farm (omega arith)).0 refl).1 0 1 _ _ refl refl refl refl)

-- (2, 2) is in the parcel, and its piece lies elsewhere
pub elsewhere_is_none : IsSoundMap elsewhere → ⊥
unfolding crossing orient_at shell_edges
elsewhere_is_none s = any_of_one (IsInPiece (place 2 2)) strayed ⊥ nought_is_one ((s.everywhere.filled (place 2 2) above 1 field (omega arith)).0 refl).0

-- (2, 2) is in the parcel, and the piece that names it is the neighbour's
pub exchanged_is_none : IsSoundMap exchanged → ⊥
unfolding crossing orient_at shell_edges
exchanged_is_none s = any_of_one (IsInPiece (place 2 2)) crop_of_farm ⊥ nought_is_one ((s.everywhere.filled (place 2 2) above 0 farm (omega arith)).0 refl).0

-- (3/4, 1) is in the parcel and in no piece
pub between_is_none : IsSoundMap between_millimetres → ⊥
unfolding crossing orient_at shell_edges
between_is_none s =
    any_of_one (IsInPiece (quarters 3 4)) far_splinter ⊥ nought_is_one ((s.everywhere.filled (quarters 3 4) above_by_four 0 (parcel (codes "farm") (splinter 0)) (omega arith)).0 refl).0

-- (3/4, 1) is in both parcels
pub thin_overlap_is_none : IsSoundMap thin_overlap → ⊥
unfolding crossing orient_at shell_edges
thin_overlap_is_none s = nought_is_one (s.everywhere.one_parcel (quarters 3 4) above_by_four 0 1 _ _ refl refl refl refl)

-- (3/4, 1) is in the parcel of each row
pub thin_parcel_is_none : IsSoundMap thin_parcel_twice → ⊥
unfolding crossing orient_at shell_edges
thin_parcel_is_none s = nought_is_one (s.everywhere.one_parcel (quarters 3 4) above_by_four 0 1 _ _ refl refl refl refl)

-- (35/4, 1) is in two pieces
pub thin_outside_is_none : IsSoundMap thin_outside_twice → ⊥
unfolding crossing orient_at shell_edges
thin_outside_is_none s = two_is_three (s.everywhere.one_piece (quarters 35 4) above_by_four 2 3 _ _ refl refl refl refl)

-- (2, 2) is in the parcel of each row
pub same_parcel_is_none : IsSoundMap same_parcel_twice → ⊥
unfolding crossing orient_at shell_edges
same_parcel_is_none s = nought_is_one (s.everywhere.one_parcel (place 2 2) above 0 1 _ _ refl refl refl refl)

-- (10, 2) is in two pieces
pub outside_is_none : IsSoundMap outside_twice → ⊥
unfolding crossing orient_at shell_edges
outside_is_none s = two_is_three (s.everywhere.one_piece (place 10 2) above 2 3 _ _ refl refl refl refl)

-- the parcel turns twice round (2, 2)
pub listed_twice_is_none : IsSoundMap listed_twice → ⊥
unfolding crossing orient_at shell_edges
listed_twice_is_none s = neither (s.turns.parcels (place 2 2) above 0 farm (omega arith)).0

-- the parcel turns the wrong way round (9, 1)
pub hole_outside_is_none : IsSoundMap hole_outside → ⊥
unfolding crossing orient_at shell_edges hole_edges
hole_outside_is_none s = wrong_way (s.turns.parcels (place 9 1) above 0 farm (omega arith)).0

-- the piece turns twice round (10, 2)
pub cancelling_piece_is_none : IsSoundMap cancelling_piece → ⊥
unfolding crossing orient_at shell_edges hole_edges
cancelling_piece_is_none s = neither (s.turns.pieces (place 10 2) above 1 crop (omega arith)).0

-- the parcel turns twice round (10, 2)
pub cancelling_parcel_is_none : IsSoundMap cancelling_parcel → ⊥
unfolding crossing orient_at shell_edges hole_edges
cancelling_parcel_is_none s = neither (s.turns.parcels (place 10 2) above 1 field (omega arith)).0

-- the piece turns twice round (35/4, 1)
pub thin_piece_is_none : IsSoundMap thin_cancelling_piece → ⊥
unfolding crossing orient_at shell_edges hole_edges
thin_piece_is_none s = neither (s.turns.pieces (quarters 35 4) above_by_four 0 crop (omega arith)).0

-- the parcel turns twice round (35/4, 1)
pub thin_cancelling_is_none : IsSoundMap thin_cancelling_parcel → ⊥
unfolding crossing orient_at shell_edges hole_edges
thin_cancelling_is_none s = neither (s.turns.parcels (quarters 35 4) above_by_four 0 field (omega arith)).0

-- a piece has no area
pub without_width_is_none : IsSoundMap without_width → ⊥
without_width_is_none s = nothing_above (s.areas.pieces 1 meadow (omega arith))
