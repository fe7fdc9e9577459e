use Rattle.std.proofs.Common.{List}
use Rattle.std.proofs.lemmas.Option.{slice_get_within}
use Rattle.lpis_checker.proofs.Common.{Triangle, polygons_of}
use Rattle.lpis_tables.specs.declared.piece.Piece.{Piece}
use Rattle.lpis_edge_sums.specs.Making.{EdgesCancel, FlatsHaveCorners}
use Rattle.lpis_checker.proofs.SiteLemmas.{told_alike}
use Rattle.lpis_checker.proofs.parcels.ParcelPlacesPlaces.holds_of.Goals as goal

pub pieces_at-pieces-requires : goal.pieces_at-pieces-requires
pieces_at-pieces-requires c = slice_get_within c.args.self.now.release.now.parcels c.args.index c.args.parcel.now c.requires

pub pieces_at-pieces-requires-in-Edges : goal.pieces_at-pieces-requires-in-Edges
pieces_at-pieces-requires-in-Edges c = slice_get_within c.args.self.now.release.now.parcels c.args.index c.args.parcel.now c.requires

pub returns-in-Corners : goal.returns-in-Corners
returns-in-Corners c =
    rw c.in-Corners.is (told_alike (λ (ps : List Piece) (fs : List Triangle). FlatsHaveCorners c.args.parcel.now.polygon (polygons_of ps) fs)
    c.has_corners_of_flats.result (c.pieces_at-pieces.ensures c.args.parcel.now c.requires) c.as_slice-flats.ensures c.has_corners_of_flats.ensures)

pub returns-in-Edges : goal.returns-in-Edges
returns-in-Edges c =
    rw c.in-Edges.is (told_alike (λ (ps : List Piece) (fs : List Triangle). EdgesCancel c.args.parcel.now.polygon (polygons_of ps) fs)
    c.is_filled.result (c.pieces_at-pieces-in-Edges.ensures c.args.parcel.now c.requires) c.as_slice-flats.ensures c.is_filled.ensures)
