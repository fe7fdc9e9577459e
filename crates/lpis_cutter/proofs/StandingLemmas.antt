-- The triangle of a number.
use Rattle.std.proofs.Common.{◌≡◌, ℕ, ◌+◌, List, Option, Some, None, IfSome, length, take, subst, slice_get, sum_by}
use Rattle.std.specs.Borrow.{Bor}
use Rattle.lpis_points.specs.declared.triangle.Triangle.{Triangle}
use Rattle.lpis_cert.specs.declared.part.PiecePart.{PiecePart}
use Rattle.lpis_cutter.specs.Refusals.{StandsAt}
use Rattle.lpis_cutter.specs.private.Cutting.{IsStanding}

-- a triangle at a place of its part has the number of that place behind the triangles of the parts before
pub stands : (parts own : List PiecePart) (index place number : ℕ) (result : Option (Bor (List ℕ) × Bor Triangle)) → own ≡ parts
    → number ≡ sum_by (λ (p : PiecePart). length p.triangles) (take index own) + place
    → IfSome result (λ found. IsStanding own index place found.0.now found.1.now) → IfSome result (λ found. StandsAt parts number found.0.now found.1.now)
stands parts own index place number None e n h = tt
stands parts own index place number (Some found) e n h = record {
  index = index;
  part = h.0;
  place = place;
  at = subst (λ (zs : List PiecePart). slice_get zs index ≡ Some h.0) e h.1;
  named = h.2;
  there = h.3;
  numbered = subst (λ (zs : List PiecePart). number ≡ sum_by (λ (p : PiecePart). length p.triangles) (take index zs) + place) e n;
}
