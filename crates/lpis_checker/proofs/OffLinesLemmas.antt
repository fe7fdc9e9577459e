-- Off the lines of a release the turns of its polygons are those of triangles.
use Rattle.std.proofs.Common.{◌≡◌, ◌≢◌, ℕ, zero, suc, List, [], ◌∷◌, ◌++◌, All, Some, sym, subst, arith, slice_get, Contains, flat_map}
use Rattle.lpis_checker.proofs.Common.{same_Some, Triangle, edges_of, Piece, Parcel, Contents, pieces_named}
use Rattle.std.proofs.lemmas.Option.{none-some}
use Rattle.std.proofs.lemmas.List.Elements.{Contains-append_right, Contains-append_left}
use Rattle.lpis_points.specs.declared.point.Point.{Point}
use Rattle.lpis_edge_sums.specs.Making.{corners_of, HaveCorners, HasCorners, TurnsAsParts}
use Rattle.lpis_checker.proofs.Common.{Cert, HoldBelow, NearPairs, polygons_of}
use Rattle.lpis_checker.specs.declared.condition.PieceCondition.TheVariants as piece
use Rattle.lpis_checker.specs.declared.condition.Site.TheVariants as site
use Rattle.lpis_points.specs.Plane.{RationalPoint}
use Rattle.lpis_points.specs.Triangles.{IsCounterClockwise, IsFlat, IsOffItsLines}
use Rattle.lpis_points.proofs.Shared.{corners_differ}
use Rattle.lpis_rings.proofs.Shared.{piece_turns}
use Rattle.lpis_checker.specs.SoundMap.{IsOffLines, all_corners}
use Rattle.lpis_checker.specs.TurnsAdd.{TurnsAdd}
use Rattle.lpis_edge_sums.proofs.Shared.{all_at, all_from, all_left, all_right}
use Rattle.lpis_checker.proofs.SiteLemmas.{both_hold, more_beside}
use Rattle.lpis_checker.proofs.SoundMapLemmas.{good_parcel, good_parts, parcel_turns}

-- ---- the corners of a part are corners of the release
abbrev corners_of_pieces : List Piece → List Point
corners_of_pieces xs = flat_map (λ (x : Piece). corners_of x.polygon) xs

corner_of_pieces : (xs : List Piece) (k : ℕ) (x : Piece) (a : Point) → slice_get xs k ≡ Some x → Contains (corners_of x.polygon) a → Contains (corners_of_pieces xs) a
corner_of_pieces [] k x a e h = absurd (none-some x e)
corner_of_pieces (y ∷ ys) zero x a e h =
    Contains-append_left (corners_of y.polygon) (corners_of_pieces ys) a (subst (λ (z : Piece). Contains (corners_of z.polygon) a) (sym (same_Some y x e)) h)
corner_of_pieces (y ∷ ys) (suc k) x a e h = Contains-append_right (corners_of y.polygon) (corners_of_pieces ys) a (corner_of_pieces ys k x a e h)

corner_of_release : (r : Contents) (k : ℕ) (x : Piece) (a : Point) → slice_get r.pieces k ≡ Some x → Contains (corners_of x.polygon) a → Contains (all_corners r) a
corner_of_release r k x a e h = Contains-append_right (flat_map (λ (y : Parcel). corners_of y.polygon) r.parcels) (corners_of_pieces r.pieces) a (corner_of_pieces r.pieces k x a e h)

-- ---- triangles with corners of the release
off_triangle : (r : Contents) (p : RationalPoint) → IsOffLines r p → (t : Triangle) → HasCorners (all_corners r) t → t.a ≢ t.b → t.b ≢ t.c → t.c ≢ t.a → IsOffItsLines t p
unfolding HasCorners
off_triangle r p off t h ab bc ca = record {
  ab = off t.a t.b h.0 h.1 ab;
  bc = off t.b t.c h.1 h.2 bc;
  ca = off t.c t.a h.2 h.0 ca;
}

off_turned : (r : Contents) (p : RationalPoint) → IsOffLines r p → (ts : List Triangle) → HaveCorners (all_corners r) ts → All IsCounterClockwise ts → All (λ t. IsOffItsLines t p) ts
off_turned r p off ts h turned = all_from (λ t. IsOffItsLines t p) ts (λ k t e.
    let d = corners_differ t.a t.b t.c (all_at IsCounterClockwise ts k t e turned) in
    off_triangle r p off t (all_at (HasCorners (all_corners r)) ts k t e h) d.ab d.bc d.ca)

off_flat : (r : Contents) (p : RationalPoint) → IsOffLines r p → (ts : List Triangle) → HaveCorners (all_corners r) ts → All IsFlat ts → All (λ t. IsOffItsLines t p) ts
off_flat r p off ts h flat = all_from (λ t. IsOffItsLines t p) ts (λ k t e.
    let d = all_at IsFlat ts k t e flat in
    off_triangle r p off t (all_at (HasCorners (all_corners r)) ts k t e h) d.ab d.bc d.ca)

-- ---- what all conditions on parts show
in_release : (r : Contents) (k : ℕ) (x : Piece) → slice_get r.pieces k ≡ Some x → (t : Triangle) → HasCorners (corners_of x.polygon) t → HasCorners (all_corners r) t
unfolding HasCorners
in_release r k x e t h = (corner_of_release r k x t.a e h.0, corner_of_release r k x t.b e h.1, corner_of_release r k x t.c e h.2)

all_in_release : (r : Contents) (k : ℕ) (x : Piece) → slice_get r.pieces k ≡ Some x → (ts : List Triangle) → HaveCorners (corners_of x.polygon) ts → HaveCorners (all_corners r) ts
all_in_release r k x e ts h = all_from (HasCorners (all_corners r)) ts (λ m t f. in_release r k x e t (all_at (HasCorners (corners_of x.polygon)) ts m t f h))

-- where the conditions on parts hold, pieces turn as their triangles do off the lines, and parcels as their pieces do
pub turns_add : (r : Contents) (c : Cert) → HoldBelow r c NearPairs → TurnsAdd r c
turns_add r c b = record {
  pieces = λ p d off k. more_beside _ _ (slice_get r.pieces k) (slice_get c.pieces k) (b.holds (site.Piece piece.Corners k) (omega arith)) (λ x t e f.
      let g = good_parts r c b k x t e f in
      let h = all_in_release r k x e (t.triangles ++ t.flats) (both_hold _ (slice_get r.pieces k) (slice_get c.pieces k) x t (b.holds (site.Piece piece.Corners k) (omega arith)) e f) in
      piece_turns (edges_of x.polygon) t.triangles t.flats (record { ccw = g.ccw; flat = g.flat; net = g.net }) p d
      (off_turned r p off t.triangles (all_left (HasCorners (all_corners r)) t.triangles t.flats h) g.ccw)
      (off_flat r p off t.flats (all_right (HasCorners (all_corners r)) t.triangles t.flats h) g.flat));
  parcels = all_from (λ (x : Parcel). TurnsAsParts x.polygon (polygons_of (pieces_named r x.id))) r.parcels (λ k x e.
      parcel_turns r x (good_parcel r c b k x e));
}
