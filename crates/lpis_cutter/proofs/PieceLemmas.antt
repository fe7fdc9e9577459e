-- Pieces that are cut one by one.
use Rattle.std.proofs.Common.{◌≡◌, ℕ, ◌+◌, ◌<◌, ◌≤◌, List, [], ◌∷◌, ◌++◌, Some, length, take, get_or, inl, inr, sym, subst, ap, arith, sum_by, slice_get}
use Rattle.lpis_cutter.proofs.Common.{Piece}
use Rattle.std.proofs.lemmas.List.{take_more}
use Rattle.std.proofs.lemmas.List.Sums.{sum_by_more}
use Rattle.std.proofs.lemmas.Option.{get_or_from_slice_get, slice_get_within}
use Rattle.lpis_edge_sums.proofs.Shared.{all_left, all_right}
use Rattle.std.proofs.lemmas.List.Elements.{All-head}
use Rattle.lpis_rings.specs.Polygon.{points_of}
use Rattle.lpis_points.specs.Triangles.{most_triangles}
use Rattle.lpis_cutter.specs.Fans.{IsFan, AreFewFans}
use Rattle.lpis_cutter.specs.private.Cutting.{AreFans, IsTooMany, points_in_pieces}

abbrev points : Piece → ℕ
points x = points_of x.polygon

-- one piece more
one_more : (xs : List Piece) (i : ℕ) (x : Piece) → slice_get xs i ≡ Some x → take (i + 1) xs ≡ take i xs ++ x ∷ []
one_more xs i x e = subst (λ (z : Piece). take (i + 1) xs ≡ take i xs ++ z ∷ []) (get_or_from_slice_get xs i x x e) (take_more xs i x (slice_get_within xs i x e))

-- where all pieces up to one are fans, those before it are, and it is
fans_before : (xs : List Piece) (i : ℕ) (x : Piece) → slice_get xs i ≡ Some x → AreFans (take (i + 1) xs) → AreFans (take i xs)
fans_before xs i x e fans = all_left (λ (z : Piece). IsFan z.polygon) (take i xs) (x ∷ []) (subst (λ (zs : List Piece). AreFans zs) (one_more xs i x e) fans)

fan_here : (xs : List Piece) (i : ℕ) (x : Piece) → slice_get xs i ≡ Some x → AreFans (take (i + 1) xs) → IsFan x.polygon
fan_here xs i x e fans = All-head (λ (z : Piece). IsFan z.polygon) x []
    (all_right (λ (z : Piece). IsFan z.polygon) (take i xs) (x ∷ []) (subst (λ (zs : List Piece). AreFans zs) (one_more xs i x e) fans))

-- the points of pieces, with those of one more
points_more : (xs : List Piece) (i : ℕ) (x : Piece) → slice_get xs i ≡ Some x → points_in_pieces (take (i + 1) xs) ≡ points_in_pieces (take i xs) + points_of x.polygon
points_more xs i x e = subst (λ (z : Piece). points_in_pieces (take (i + 1) xs) ≡ points_in_pieces (take i xs) + points z)
    (get_or_from_slice_get xs i x x e) (sum_by_more points xs i x (slice_get_within xs i x e))

-- as many as the points so far, and those of one piece more
pub points_bound_grows : (xs : List Piece) (i : ℕ) (x : Piece) (before more after : ℕ) → slice_get xs i ≡ Some x
    → (AreFans (take i xs) → before ≤ points_in_pieces (take i xs)) → (IsFan x.polygon → more ≤ points_of x.polygon)
    → after ≡ before + more → AreFans (take (i + 1) xs) → after ≤ points_in_pieces (take (i + 1) xs)
points_bound_grows xs i x before more after e so_far few sum fans =
    let a : before ≤ points_in_pieces (take i xs) = so_far (fans_before xs i x e fans) in
    let b : more ≤ points_of x.polygon = few (fan_here xs i x e fans) in
    let c : points_in_pieces (take (i + 1) xs) ≡ points_in_pieces (take i xs) + points_of x.polygon = points_more xs i x e in
    omega (arith, a, b, c, sum)

-- where a limit would be passed, the pieces up to that one are no few fans
pub no_few_fans : (xs : List Piece) (i : ℕ) (x : Piece) (triangles flats : ℕ) → slice_get xs i ≡ Some x
    → (AreFans (take i xs) → triangles ≤ points_in_pieces (take i xs)) → (AreFans (take i xs) → flats ≤ points_in_pieces (take i xs))
    → (IsFan x.polygon → IsTooMany x.polygon triangles flats) → AreFewFans (take (i + 1) xs) → ⊥
no_few_fans xs i x triangles flats e few_triangles few_flats too_many few = by (too_many (fan_here xs i x e few.fans))
  where
    before : AreFans (take i xs)
    before = fans_before xs i x e few.fans

    more : points_in_pieces (take (i + 1) xs) ≡ points_in_pieces (take i xs) + points_of x.polygon
    more = points_more xs i x e

    all_few : points_in_pieces (take (i + 1) xs) ≤ most_triangles
    all_few = few.few

    by : IsTooMany x.polygon triangles flats → ⊥
    by (inl t) = omega (arith, t, few_triangles before, more, all_few)
    by (inr t) = omega (arith, t, few_flats before, more, all_few)
