-- Pair lines that name near pairs alone, as many as there are: each near pair has a line.
use Rattle.std.specs.Prelude.{⊤}
use Rattle.std.proofs.Common.{◌≡◌, ℕ, ◌<◌, ◌≤◌, false, All, List, length, map, Option, Some, None, sym, refl, ap, ◌∙◌, subst, arith, slice_get, MatchOption}
use Rattle.std.specs.Option.{option_map}
use Rattle.lpis_checker.proofs.Common.{same_Some, slice_get_within, Triangle, Contents, Cert, PairLine, triangles_of}
use Rattle.std.proofs.lemmas.List.{length-map}
use Rattle.std.proofs.lemmas.Option.{MatchOption-at_some, get_or_from_slice_get, slice_get-map}
use Rattle.lpis_points.specs.Triangles.{are_apart}
use Rattle.lpis_pairs.specs.NearPairs.{IsBelow, IsNear}
use Rattle.lpis_pairs.proofs.Shared.{as_many_are_all}
use Rattle.lpis_checker.specs.declared.condition.LineCondition.TheVariants as line
use Rattle.lpis_checker.specs.declared.condition.ParcelCondition.TheVariants as parcel
use Rattle.lpis_checker.specs.declared.condition.PieceCondition.TheVariants as piece
use Rattle.lpis_checker.specs.declared.condition.Site.{Site}
use Rattle.lpis_checker.specs.declared.condition.Site.TheVariants as site
use Rattle.lpis_checker.specs.GoodCertificate.{ConditionHolds, IsInOrder, OfTriangles, OnLine}
use Rattle.lpis_checker.specs.private.Naming.{AreAsMany, IsGoodLine}
use Rattle.lpis_checker.specs.private.Searches.{AreLinesInOrder, HoldUntil, all_searches, part_searches, search_of}
use Rattle.lpis_checker.proofs.PairLineLemmas.{lines_ascend}

-- the pairs that lines name
abbrev pair_of : PairLine → ℕ × ℕ
pair_of l = (l.i, l.j)

line_at : (lines : List PairLine) (k : ℕ) (p : ℕ × ℕ) → slice_get (map pair_of lines) k ≡ Some p → (l : PairLine) × (slice_get lines k ≡ Some l) × (pair_of l ≡ p)
line_at lines k p e = by (slice_get lines k) refl (sym (slice_get-map pair_of lines k) ∙ e)
  where
    by : (o : Option PairLine) → slice_get lines k ≡ o → option_map pair_of o ≡ Some p → (l : PairLine) × (slice_get lines k ≡ Some l) × (pair_of l ≡ p)
    by (Some l) f h = (l, f, same_Some (pair_of l) p h)
    by None f h = absurd (cc)

near_of_line : (ts : List Triangle) (l : PairLine) → l.i < l.j → OfTriangles ts l (OnLine line.NotApart l) → IsNear ts l.i l.j
near_of_line ts l r h = by (slice_get ts l.i) (slice_get ts l.j) refl refl h
  where
    by : (o p : Option Triangle) → slice_get ts l.i ≡ o → slice_get ts l.j ≡ p → MatchOption o ⊥ (λ t. MatchOption p ⊥ (λ u. are_apart t u ≡ false)) → IsNear ts l.i l.j
    by (Some t) (Some u) e f n = record { rising = r; t = t; u = u; at_i = e; at_j = f; near = n }
    by (Some t) None e f n = absurd n
    by None p e f n = absurd n

-- what holds of all items holds of the one at an index, where there is one
each_line : (P : PairLine → Type 0) (lines : List PairLine) (k : ℕ) → All P lines → MatchOption (slice_get lines k) ⊤ P
each_line P lines k h = by (slice_get lines k) refl
  where
    by : (o : Option PairLine) → slice_get lines k ≡ o → MatchOption o ⊤ P
    by None e = tt
    by (Some l) e = subst P (get_or_from_slice_get lines k l l e) (h k l (slice_get_within lines k l e))

-- each near pair has a line
pairs_named : (r : Contents) (c : Cert) (ts : List Triangle) → ts ≡ triangles_of c.pieces → AreLinesInOrder c → All (IsGoodLine ts) c.pairs → AreAsMany c ts
    → (i j : ℕ) → ConditionHolds r c (site.Pair i j)
pairs_named r c ts numbered ordered good many i j n =
    let x = as_many_are_all ts many.0 (map pair_of c.pairs) many.1 rising near (subst (λ (m : ℕ). length many.0 ≤ m) (sym (length-map c.pairs pair_of)) many.2)
    i j (subst (λ (us : List Triangle). IsNear us i j) (sym numbered) n) in
    let l = line_at c.pairs x.0 (i, j) x.1 in
    (x.0, l.0, l.1, ap (λ (p : ℕ × ℕ). p.0) l.2, ap (λ (p : ℕ × ℕ). p.1) l.2)
  where
    rising : (k m : ℕ) (p q : ℕ × ℕ) → k < m → slice_get (map pair_of c.pairs) k ≡ Some p → slice_get (map pair_of c.pairs) m ≡ Some q → IsBelow p.0 p.1 q.0 q.1
    rising k m p q l e f =
        let x = line_at c.pairs k p e in
        let y = line_at c.pairs m q f in
        rw (← x.2, ← y.2) (lines_ascend c ordered k m x.0 y.0 l x.1 y.1)

    near : (k : ℕ) (p : ℕ × ℕ) → slice_get (map pair_of c.pairs) k ≡ Some p → IsNear ts p.0 p.1
    near k p e =
        let x = line_at c.pairs k p e in
        let order = MatchOption-at_some ⊤ (IsInOrder c k) x.0 x.1 (ordered k) in
        let says = MatchOption-at_some ⊤ (IsGoodLine ts) x.0 x.1 (each_line (IsGoodLine ts) c.pairs k good) in
        rw (← x.2) (near_of_line ts x.0 order.rising says.0)

-- where the searches of parts find no fault, and the lines are good and as many as the near pairs, none is found
pub all_hold : (r : Contents) (c : Cert) (ts : List Triangle) → ts ≡ triangles_of c.pieces → HoldUntil r c part_searches → All (IsGoodLine ts) c.pairs → AreAsMany c ts
    → HoldUntil r c all_searches
all_hold r c ts numbered parts good many = record { holds = by }
  where
    good' : All (IsGoodLine (triangles_of c.pieces)) c.pairs
    good' = subst (λ (us : List Triangle). All (IsGoodLine us) c.pairs) numbered good

    apart_or_not : (k : ℕ) → MatchOption (slice_get c.pairs k) ⊤ (IsGoodLine (triangles_of c.pieces))
    apart_or_not k = each_line (IsGoodLine (triangles_of c.pieces)) c.pairs k good'

    by : (s : Site) → search_of s < all_searches → ConditionHolds r c s
    by (site.Pair i j) l = pairs_named r c ts numbered (λ k. parts.holds (site.Order k) (omega arith)) good many i j
    by (site.Line line.NotApart k) l = first (slice_get c.pairs k) (apart_or_not k)
      where
        first : (o : Option PairLine) → MatchOption o ⊤ (IsGoodLine (triangles_of c.pieces)) → MatchOption o ⊤ (λ (q : PairLine). OfTriangles (triangles_of c.pieces) q (OnLine line.NotApart q))
        first None h = tt
        first (Some q) h = h.0
    by (site.Line line.Separating k) l = second (slice_get c.pairs k) (apart_or_not k)
      where
        second : (o : Option PairLine) → MatchOption o ⊤ (IsGoodLine (triangles_of c.pieces)) → MatchOption o ⊤ (λ (q : PairLine). OfTriangles (triangles_of c.pieces) q (OnLine line.Separating q))
        second None h = tt
        second (Some q) h = h.1
    by (site.Piece piece.Names k) l = parts.holds (site.Piece piece.Names k) (omega arith)
    by (site.Parcel parcel.Names k) l = parts.holds (site.Parcel parcel.Names k) (omega arith)
    by s l = parts.holds s (omega arith)
