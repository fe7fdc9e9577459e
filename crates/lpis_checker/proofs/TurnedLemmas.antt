-- The triangles of a certificate, each of whose parts has counter-clockwise ones.
use Rattle.std.proofs.Common.{◌≡◌, ℕ, suc, ◌<◌, Bool, Option, List, [], ◌∷◌, All, Some, MatchOption, IsTrue, ◌↔◌, sym, subst, arith, slice_get}
use Rattle.lpis_checker.proofs.Common.{Triangle, Contents, Piece, Cert, PiecePart, triangles_of}
use Rattle.std.proofs.lemmas.List.Elements.{All-append, All-nil}
use Rattle.lpis_points.specs.declared.point.Point.{Point}
use Rattle.lpis_points.specs.Triangles.{IsCounterClockwise, IsRight, Separates, triangle_edges}
use Rattle.lpis_points.proofs.Shared.{own_edge_separates}
use Rattle.lpis_checker.specs.declared.condition.LineCondition.{LineCondition}
use Rattle.lpis_checker.specs.declared.condition.LineCondition.TheVariants as line
use Rattle.lpis_checker.specs.declared.condition.PieceCondition.TheVariants as piece
use Rattle.lpis_checker.specs.declared.condition.Site.TheVariants as site
use Rattle.lpis_checker.specs.GoodCertificate.{EdgeSeparates, OnPiece, SideBySide}
use Rattle.lpis_checker.specs.private.Searches.{HoldUntil, search_of}

turned_parts : (r : Contents) (xs : List Piece) (ts : List PiecePart) → ((k : ℕ) → SideBySide (OnPiece piece.CounterClockwise) (slice_get xs k) (slice_get ts k))
    → All IsCounterClockwise (triangles_of ts)
turned_parts r [] [] h = All-nil IsCounterClockwise
turned_parts r [] (t ∷ ts) h = absurd (h 0)
turned_parts r (x ∷ xs) [] h = absurd (h 0)
turned_parts r (x ∷ xs) (t ∷ ts) h = All-append IsCounterClockwise t.triangles (triangles_of ts) (h 0) (turned_parts r xs ts (λ k. h (suc k)))

-- the searches of pair lines come later
pub turned_before : (q : LineCondition) → search_of (site.Piece piece.CounterClockwise 0) < search_of (site.Line q 0)
turned_before line.NotApart = omega arith
turned_before line.Separating = omega arith

-- once the search for others has found none, all triangles are counter-clockwise
pub all_turned : (r : Contents) (c : Cert) (ts : List Triangle) (n : ℕ) → ts ≡ triangles_of c.pieces
    → search_of (site.Piece piece.CounterClockwise 0) < n → HoldUntil r c n → All IsCounterClockwise ts
all_turned r c ts n numbered l below =
    subst (All IsCounterClockwise) (sym numbered) (turned_parts r r.pieces c.pieces (λ k. below.holds (site.Piece piece.CounterClockwise k) l))

-- an edge of a counter-clockwise triangle separates it from what is right of the edge, and nothing else
pub told_by_edge : (k : ℕ) (t u : Triangle) (edge : Point × Point) (b : Bool) → IsCounterClockwise t → slice_get (triangle_edges t) k ≡ Some edge
    → (IsTrue b ↔ IsRight edge.0 edge.1 u) → IsTrue b ↔ EdgeSeparates k t u
told_by_edge k t u edge b turned e h =
    subst (λ (o : Option (Point × Point)). IsTrue b ↔ MatchOption o ⊥ (λ (x : Point × Point). Separates x t u)) (sym e)
    (λ s. own_edge_separates k t u edge turned e (h.0 s), λ s. h.1 s.right_of)
