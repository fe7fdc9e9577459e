-- The releases of the examples.
use Rattle.std.specs.Prelude.{ℕ, List, [], ◌∷◌, ◌++◌, codes, reverse}
use lib.Dec.{leb→le}
use Rattle.lpis_rings.specs.declared.polygon.Member.{Member}
use Rattle.lpis_tables.specs.declared.piece.Piece.{Piece}
use Rattle.lpis_tables.specs.declared.class.Class.{Class}
use Rattle.lpis_tables.specs.Percentages.{most_percent}
use Rattle.lpis_release.specs.declared.parcel.Parcel.{Parcel}
use Rattle.lpis_release.specs.Release.{Contents}
use Rattle.lpis_examples.specs.Shapes.{box, cancelling, corner, doubled, frame, land, splinter}
use Rattle.lpis_examples.specs.Shapes.{outside_hole, square, thin_cancelling}

-- classes: all of grass is eligible, half of trees, nothing of buildings, and of heath and scrub 67
-- and 33 percent
abbrev pub classes : List Class
classes =
    record { code = codes "grass"; percent = 100; within = leb→le 100 most_percent tt }
    ∷ record { code = codes "trees"; percent = 50; within = leb→le 50 most_percent tt }
    ∷ record { code = codes "building"; percent = 0; within = leb→le 0 most_percent tt }
    ∷ record { code = codes "heath"; percent = 67; within = leb→le 67 most_percent tt }
    ∷ record { code = codes "scrub"; percent = 33; within = leb→le 33 most_percent tt }
    ∷ []

-- a parcel, and a piece of a parcel
abbrev pub parcel : List ℕ → List Member → Parcel
parcel id polygon = record { id = id; polygon = polygon }

abbrev pub piece : List ℕ → List ℕ → List ℕ → List Member → Piece
piece id parcel class polygon = record {
  id = id;
  parcel = parcel;
  class = class;
  polygon = polygon;
}

abbrev pub release : List Parcel → List Piece → Contents
release parcels pieces = record { parcels = parcels; pieces = pieces; classes = classes }

-- the parcel `farm`, a square of 4 by 4, and the parcel `field` beside it
abbrev pub farm : Parcel
farm = parcel (codes "farm") square

abbrev pub field : Parcel
field = parcel (codes "field") (land (box 4 0 8 4))

-- the pieces: `farm` has a meadow in its left half and a wood in its right one, `field` a crop
abbrev pub meadow : Piece
meadow = piece (codes "meadow") (codes "farm") (codes "grass") (land (box 0 0 2 4))

abbrev pub wood : Piece
wood = piece (codes "wood") (codes "farm") (codes "trees") (land (box 2 0 4 4))

abbrev pub crop : Piece
crop = piece (codes "crop") (codes "field") (codes "grass") (land (box 4 0 8 4))

-- the two parcels with their three pieces
abbrev pub two_parcels : Contents
two_parcels = release (farm ∷ field ∷ []) (meadow ∷ wood ∷ crop ∷ [])

-- `farm` with a house, scrub and a heath
abbrev pub house : Piece
house = piece (codes "house") (codes "farm") (codes "building") (land (box 0 0 1 4))

abbrev pub scrub : Piece
scrub = piece (codes "scrub") (codes "farm") (codes "scrub") (land (box 1 0 2 4))

abbrev pub heath : Piece
heath = piece (codes "heath") (codes "farm") (codes "heath") (land (box 2 0 4 4))

abbrev pub with_house : Contents
with_house = release (farm ∷ []) (house ∷ scrub ∷ heath ∷ [])

-- a piece that is all of `farm`
abbrev pub pasture : Piece
pasture = piece (codes "pasture") (codes "farm") (codes "grass") square

-- the parcel `orchard` above `farm`, and its piece
abbrev pub orchard : Parcel
orchard = parcel (codes "orchard") (land (box 0 4 4 8))

abbrev pub apples : Piece
apples = piece (codes "apples") (codes "orchard") (codes "trees") (land (box 0 4 4 8))

-- `farm` in two parts, of which the first has a hole; the parcel `island` in that hole, its ring
-- written clockwise; and the parcel `field`, which meets each part of `farm` at a corner alone
abbrev pub parted_farm : Parcel
parted_farm = parcel (codes "farm") (frame ++ land (box 8 0 12 4))

abbrev pub island : Parcel
island = parcel (codes "island") (land (reverse (box 1 1 3 3)))

abbrev pub upper_field : Parcel
upper_field = parcel (codes "field") (land (box 4 4 8 8))

-- their pieces: each part of `farm` is one, `island` and `field` have one each
abbrev pub first_part : Piece
first_part = piece (codes "meadow") (codes "farm") (codes "grass") frame

abbrev pub second_part : Piece
second_part = piece (codes "wood") (codes "farm") (codes "trees") (land (box 8 0 12 4))

abbrev pub island_crop : Piece
island_crop = piece (codes "garden") (codes "island") (codes "grass") (land (box 1 1 3 3))

abbrev pub upper_crop : Piece
upper_crop = piece (codes "crop") (codes "field") (codes "grass") (land (box 4 4 8 8))

abbrev pub with_island : Contents
with_island = release (parted_farm ∷ island ∷ upper_field ∷ [])
    (first_part ∷ second_part ∷ island_crop ∷ upper_crop ∷ [])

-- no parcels and no pieces
abbrev pub nothing : Contents
nothing = release [] []

-- a piece of a class that is not listed
abbrev pub rocks : Piece
rocks = piece (codes "rocks") (codes "farm") (codes "rock") square

-- `farm` with one piece, and `field` a millimetre further to the east: the strip between them is
-- in no parcel
abbrev pub far_field : Parcel
far_field = parcel (codes "field") (land (box 5 0 8 4))

abbrev pub far_crop : Piece
far_crop = piece (codes "crop") (codes "field") (codes "grass") (land (box 5 0 8 4))

abbrev pub with_strip : Contents
with_strip = release (farm ∷ far_field ∷ []) (pasture ∷ far_crop ∷ [])

-- `field` begins a millimetre further to the west, in `farm`; in both tables `orchard` stands
-- between the two
abbrev pub early_field : Parcel
early_field = parcel (codes "field") (land (box 3 0 8 4))

abbrev pub early_crop : Piece
early_crop = piece (codes "crop") (codes "field") (codes "grass") (land (box 3 0 8 4))

abbrev pub overlapping : Contents
overlapping = release (farm ∷ orchard ∷ early_field ∷ []) (pasture ∷ apples ∷ early_crop ∷ [])

-- `farm` without its wood
abbrev pub with_gap : Contents
with_gap = release (farm ∷ []) (meadow ∷ [])

-- the wood reaches a millimetre out of `farm`
abbrev pub long_wood : Piece
long_wood = piece (codes "wood") (codes "farm") (codes "trees") (land (box 2 0 5 4))

abbrev pub reaching_out : Contents
reaching_out = release (farm ∷ []) (meadow ∷ long_wood ∷ [])

-- the meadow reaches a millimetre into the wood
abbrev pub pieces_overlapping : Contents
pieces_overlapping = release (farm ∷ [])
    (piece (codes "meadow") (codes "farm") (codes "grass") (land (box 0 0 3 4)) ∷ wood ∷ [])

-- the piece of `farm` lies elsewhere, and has the same area; the rows before and behind are right
abbrev pub strayed : Piece
strayed = piece (codes "pasture") (codes "farm") (codes "grass") (land (box 8 0 12 4))

abbrev pub elsewhere : Contents
elsewhere = release (field ∷ farm ∷ orchard ∷ []) (crop ∷ strayed ∷ apples ∷ [])

-- the pieces of the two parcels, each with the name of the neighbour's parcel
abbrev pub crop_of_farm : Piece
crop_of_farm = piece (codes "crop") (codes "farm") (codes "grass") (land (box 4 0 8 4))

abbrev pub exchanged : Contents
exchanged = release (farm ∷ field ∷ [])
    (piece (codes "meadow") (codes "field") (codes "grass") (land (box 0 0 2 4))
    ∷ piece (codes "wood") (codes "field") (codes "trees") (land (box 2 0 4 4)) ∷ crop_of_farm ∷ [])

-- a parcel, and its piece beside it: neither contains a point with whole-millimetre coordinates
abbrev pub far_splinter : Piece
far_splinter = piece (codes "pasture") (codes "farm") (codes "grass") (splinter 5)

abbrev pub between_millimetres : Contents
between_millimetres = release (parcel (codes "farm") (splinter 0) ∷ []) (far_splinter ∷ [])

-- two parcels, and the piece of each, are the same thin triangle
abbrev pub thin_farm : Parcel
thin_farm = parcel (codes "farm") (splinter 0)

abbrev pub thin_pasture : Piece
thin_pasture = piece (codes "pasture") (codes "farm") (codes "grass") (splinter 0)

abbrev pub thin_overlap : Contents
thin_overlap = release (thin_farm ∷ parcel (codes "field") (splinter 0) ∷ [])
    (thin_pasture ∷ piece (codes "crop") (codes "field") (codes "grass") (splinter 0) ∷ [])

-- the same parcel in two rows
abbrev pub same_parcel_twice : Contents
same_parcel_twice = release (farm ∷ farm ∷ []) (pasture ∷ [])

-- two pieces with the same land outside of all parcels, of a parcel that is not listed
abbrev pub outside_twice : Contents
outside_twice = release (farm ∷ [])
    (meadow ∷ wood ∷ piece (codes "a") (codes "wild") (codes "grass") (land (box 8 0 12 4))
    ∷ piece (codes "b") (codes "wild") (codes "grass") (land (box 8 0 12 4)) ∷ [])

-- the same of a thin parcel, and of thin pieces
abbrev pub thin_parcel_twice : Contents
thin_parcel_twice = release (thin_farm ∷ thin_farm ∷ []) (thin_pasture ∷ [])

abbrev pub thin_outside_twice : Contents
thin_outside_twice = release (farm ∷ [])
    (meadow ∷ wood ∷ piece (codes "a") (codes "wild") (codes "grass") (splinter 8)
    ∷ piece (codes "b") (codes "wild") (codes "grass") (splinter 8) ∷ [])

-- a parcel and its piece, each with the same square listed twice
abbrev pub listed_twice : Contents
listed_twice = release (parcel (codes "farm") doubled ∷ [])
    (piece (codes "meadow") (codes "farm") (codes "grass") doubled ∷ [])

-- a parcel and its piece, each with a hole outside of its shell
abbrev pub hole_outside : Contents
hole_outside = release (parcel (codes "farm") outside_hole ∷ [])
    (piece (codes "meadow") (codes "farm") (codes "grass") outside_hole ∷ [])

-- the polygon `cancelling`, as the piece of a square and as the parcel; the rows before and behind
-- are right
abbrev pub cancelling_piece : Contents
cancelling_piece = release (field ∷ farm ∷ orchard ∷ [])
    (crop ∷ piece (codes "pasture") (codes "farm") (codes "grass") cancelling ∷ apples ∷ [])

abbrev pub cancelling_parcel : Contents
cancelling_parcel = release (field ∷ parcel (codes "farm") cancelling ∷ orchard ∷ [])
    (crop ∷ pasture ∷ apples ∷ [])

-- the same of the polygon `thin_cancelling`
abbrev pub thin_cancelling_piece : Contents
thin_cancelling_piece = release (farm ∷ [])
    (piece (codes "pasture") (codes "farm") (codes "grass") thin_cancelling ∷ [])

abbrev pub thin_cancelling_parcel : Contents
thin_cancelling_parcel = release (parcel (codes "farm") thin_cancelling ∷ []) (pasture ∷ [])

-- a piece that is only a line, between two that fill the parcel
abbrev pub line : Piece
line = piece (codes "line") (codes "farm") (codes "trees")
    (land (corner 0 0 ∷ corner 4 0 ∷ corner 4 0 ∷ corner 0 0 ∷ []))

abbrev pub without_width : Contents
without_width = release (farm ∷ []) (meadow ∷ line ∷ wood ∷ [])
