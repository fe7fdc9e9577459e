-- Triangles that keep apart cover each point at most once: first at the shifted point, which is off every line, and so
-- everywhere.
use Rattle.std.proofs.Common.{◌≡◌, ◌≢◌, ℤ, pos, ◌+ℤ◌, ◌≤ℤ◌, ◌<ℤ◌, Bool, true, false, cond, List, [], ◌∷◌, ◌++◌, inl, inr, All, sym, refl, ◌∙◌, subst, arith, get_or, filter, length}
use Rattle.lpis_rings.proofs.Common.{ints, Point, edge_turns}
use Rattle.std.proofs.lemmas.Int.{by_lt_z}
use Rattle.std.proofs.lemmas.List.Elements.{All-cons, All-head, All-tail, All-append}
use Rattle.lpis_points.specs.declared.triangle.Triangle.{Triangle}
use Rattle.lpis_points.specs.Plane.{RationalPoint, orient_at, crossing, same_point}
use Rattle.lpis_points.specs.Triangles.{IsCounterClockwise, IsFlat, IsOffItsLines, is_inside}
use Rattle.lpis_points.specs.Shift.{shifted}
use Rattle.lpis_points.specs.Chain.{SameNet}
use Rattle.lpis_points.specs.Sums.{int_sum_by}
use Rattle.lpis_points.proofs.Shared.{int_sum_by-append, int_sum_by-flat_map, int_sum_by-not_neg, int_sum_by-same, crossing-odd, shifted_off, crossing-shifted, corners_differ, turns_round-is}
use Rattle.lpis_points.proofs.Shared.{flats_never_turn, apart_share_nothing, separated_share_nothing}
use Rattle.lpis_rings.specs.Map.{edges_of_triangles, KeepApart, AllKeepApart, IsCut, inside_count, CutPiece, IsCutPiece, all_triangles, all_edges, all_turns, IsOneOrNone}
use Rattle.lpis_rings.proofs.AreaByTrianglesLemmas.{triangles_sum, no_sum, sum_without_flats}

-- a point off every line through two points
pub record Free (s : RationalPoint) : Type 0 where
  pub positive : pos 0 <ℤ s.d
  pub off : (a b : Point) → a ≢ b → orient_at a b s ≢ pos 0

free_shifted : (s : RationalPoint) → pos 0 <ℤ s.d → Free (shifted s)
free_shifted s h = record {
  positive = omega (arith, ints);
  off = λ a b n. shifted_off a b s n;
}

edge_turns-shifted : (es : List (Point × Point)) (s : RationalPoint) → pos 0 <ℤ s.d → edge_turns es (shifted s) ≡ edge_turns es s
edge_turns-shifted es s h = int_sum_by-same _ _ es (λ k e l. let g = get_or es k e in crossing-shifted g.0 g.1 s h)

-- ---- triangles
-- 1 where the triangle has the point inside
abbrev inside_at : RationalPoint → Triangle → ℤ
inside_at s t = cond (is_inside t s) (pos 1) (pos 0)

-- how many of the triangles have it inside
abbrev pub inside_sum : List Triangle → RationalPoint → ℤ
inside_sum ts s = int_sum_by (inside_at s) ts

off_of : (t : Triangle) (s : RationalPoint) → Free s → t.a ≢ t.b → t.b ≢ t.c → t.c ≢ t.a → IsOffItsLines t s
off_of t s f ab bc ca = record { ab = f.off t.a t.b ab; bc = f.off t.b t.c bc; ca = f.off t.c t.a ca }

off_ccw : (t : Triangle) (s : RationalPoint) → Free s → IsCounterClockwise t → IsOffItsLines t s
off_ccw t s f h = let d = corners_differ t.a t.b t.c h in off_of t s f d.ab d.bc d.ca

-- the point is off the lines of each triangle
abbrev AllOff : List Triangle → RationalPoint → Type 0
AllOff ts s = All (λ t. IsOffItsLines t s) ts

ccw_off : (ts : List Triangle) (s : RationalPoint) → Free s → All IsCounterClockwise ts → AllOff ts s
ccw_off ts s f h = λ k d l. off_ccw (get_or ts k d) s f (h k d l)

flats_off : (ts : List Triangle) (s : RationalPoint) → Free s → All IsFlat ts → AllOff ts s
flats_off ts s f h = λ k d l. let t = get_or ts k d in let g = h k d l in off_of t s f g.ab g.bc g.ca

triangles_turn : (ts : List Triangle) (s : RationalPoint) → pos 0 <ℤ s.d → AllOff ts s → All IsCounterClockwise ts → edge_turns (edges_of_triangles ts) s ≡ inside_sum ts s
triangles_turn ts s d o h = triangles_sum (λ a b. crossing a b s) (inside_at s) ts (λ k e l. turns_round-is (get_or ts k e) s d (h k e l) (o k e l))

-- edges with the net counts of others and of flats turn as those do
turned : (es fs : List (Point × Point)) (flats : List Triangle) (s : RationalPoint) → pos 0 <ℤ s.d → AllOff flats s
    → All IsFlat flats → SameNet same_point es (fs ++ edges_of_triangles flats) → edge_turns es s ≡ edge_turns fs s
turned es fs flats s d o h n = sum_without_flats (λ a b. crossing a b s) (crossing-odd s) es fs flats
    (no_sum (λ a b. crossing a b s) flats (λ k e l. flats_never_turn (get_or flats k e) s d (h k e l).line (o k e l))) n

cut_turns_off : (es : List (Point × Point)) (ts flats : List Triangle) (s : RationalPoint) → pos 0 <ℤ s.d → AllOff ts s → AllOff flats s → IsCut es ts flats → edge_turns es s ≡ inside_sum ts s
cut_turns_off es ts flats s d o r c = turned es (edges_of_triangles ts) flats s d r c.flat c.net ∙ triangles_turn ts s d o c.ccw

cut_turns : (es : List (Point × Point)) (ts flats : List Triangle) (s : RationalPoint) → Free s → IsCut es ts flats → edge_turns es s ≡ inside_sum ts s
cut_turns es ts flats s f c = cut_turns_off es ts flats s f.positive (ccw_off ts s f c.ccw) (flats_off flats s f c.flat) c

inside_sum-is : (ts : List Triangle) (s : RationalPoint) → inside_sum ts s ≡ pos (inside_count ts s)
inside_sum-is [] s = refl
inside_sum-is (t ∷ ts) s = by (is_inside t s) (inside_sum ts s) (filter (λ u. is_inside u s) ts) (inside_sum-is ts s)
  where
    by : (b : Bool) (x : ℤ) (us : List Triangle) → x ≡ pos (length us) → cond b (pos 1) (pos 0) +ℤ x ≡ pos (length (cond b (t ∷ us) us))
    by true x us e = omega (arith, ints)
    by false x us e = omega (arith, ints)

-- off the lines of its triangles and flats a piece turns as often as triangles have the point inside
pub piece_turns : (es : List (Point × Point)) (ts flats : List Triangle) → IsCut es ts flats → (s : RationalPoint)
    → pos 0 <ℤ s.d → AllOff ts s → AllOff flats s → edge_turns es s ≡ pos (inside_count ts s)
piece_turns es ts flats c s d o r = cut_turns_off es ts flats s d o r c ∙ inside_sum-is ts s

-- ---- at most one triangle
none_common : (t t' : Triangle) (s : RationalPoint) → IsCounterClockwise t → IsCounterClockwise t' → KeepApart t t' → is_inside t s ≡ true → is_inside t' s ≡ true → ⊥
none_common t t' s h h' k i j =
    elim k [
      | inl e ↦ apart_share_nothing t t' s h h' e i j
      | inr r ↦ elim r [
        | inl l ↦ separated_share_nothing l.0 t t' s h h' l.1 i j
        | inr l ↦ separated_share_nothing l.0 t' t s h' h l.1 j i
      ]
    ]

none_later : (t : Triangle) (ts : List Triangle) (s : RationalPoint) → Free s → IsCounterClockwise t
    → All IsCounterClockwise ts → All (λ t'. KeepApart t t') ts → is_inside t s ≡ true → inside_sum ts s ≡ pos 0
none_later t [] s f h hs k i = refl
none_later t (t' ∷ ts) s f h hs k i =
    outside (is_inside t' s) (inside_sum ts s) (λ j. none_common t t' s h (All-head IsCounterClockwise t' ts hs)
    (All-head (λ u. KeepApart t u) t' ts k) i j) (none_later t ts s f h (All-tail IsCounterClockwise t' ts hs)
    (All-tail (λ u. KeepApart t u) t' ts k) i)
  where
    outside : (b : Bool) (x : ℤ) → (b ≡ true → ⊥) → x ≡ pos 0 → cond b (pos 1) (pos 0) +ℤ x ≡ pos 0
    outside true x n e = absurd (n refl)
    outside false x n e = omega (arith, ints)

at_most_one : (ts : List Triangle) (s : RationalPoint) → Free s → All IsCounterClockwise ts → AllKeepApart ts → IsOneOrNone (inside_sum ts s)
at_most_one [] s f h k = inl refl
at_most_one (t ∷ ts) s f h k =
    by (is_inside t s) (inside_sum ts s) (λ i. none_later t ts s f (All-head IsCounterClockwise t ts h)
    (All-tail IsCounterClockwise t ts h) k.0 i) (at_most_one ts s f (All-tail IsCounterClockwise t ts h) k.1)
  where
    one : (x : ℤ) → x ≡ pos 0 → pos 1 +ℤ x ≡ pos 1
    one x e = omega (arith, ints)

    rest : (x a : ℤ) → x ≡ a → pos 0 +ℤ x ≡ a
    rest x a e = omega (arith, ints)

    by : (b : Bool) (x : ℤ) → (b ≡ true → x ≡ pos 0) → IsOneOrNone x → IsOneOrNone (cond b (pos 1) (pos 0) +ℤ x)
    by true x n o = inr (one x (n refl))
    by false x n (inl e) = inl (rest x (pos 0) e)
    by false x n (inr e) = inr (rest x (pos 1) e)

count_not_neg : (ts : List Triangle) (s : RationalPoint) → pos 0 ≤ℤ inside_sum ts s
count_not_neg ts s = int_sum_by-not_neg (inside_at s) ts (λ k d l. by (is_inside (get_or ts k d) s))
  where
    by : (b : Bool) → pos 0 ≤ℤ cond b (pos 1) (pos 0)
    by true = omega (arith, ints)
    by false = omega (arith, ints)

all_ccw : (ps : List CutPiece) → All IsCutPiece ps → All IsCounterClockwise (all_triangles ps)
all_ccw [] h = λ k d l. absurd (omega arith)
all_ccw (p ∷ ps) h = All-append IsCounterClockwise p.triangles (all_triangles ps) (All-head IsCutPiece p ps h).ccw (all_ccw ps (All-tail IsCutPiece p ps h))

all_turns_count : (ps : List CutPiece) (s : RationalPoint) → Free s → All IsCutPiece ps → all_turns ps s ≡ inside_sum (all_triangles ps) s
all_turns_count ps s f h =
    int_sum_by-same (λ (p : CutPiece). edge_turns p.edges s) (λ (p : CutPiece). inside_sum p.triangles s) ps
    (λ k q l. let p = get_or ps k q in cut_turns p.edges p.triangles p.flats s f (h k q l))
    ∙ sym (int_sum_by-flat_map (inside_at s) (λ (p : CutPiece). p.triangles) ps)

all_turns-shifted : (ps : List CutPiece) (s : RationalPoint) → pos 0 <ℤ s.d → all_turns ps (shifted s) ≡ all_turns ps s
all_turns-shifted ps s h = int_sum_by-same _ _ ps (λ k p l. edge_turns-shifted (get_or ps k p).edges s h)

-- parts of a sum of 0 or 1 that are not below 0
halves : (x y z : ℤ) → z ≡ x +ℤ y → pos 0 ≤ℤ x → pos 0 ≤ℤ y → IsOneOrNone z → IsOneOrNone x × IsOneOrNone y
halves x y z e h k (inl f) = (inl (omega (arith, ints)), inl (omega (arith, ints)))
halves x y z e h k (inr f) = by_lt_z (pos 0) x
    (λ l. (inr (omega (arith, ints)), inl (omega (arith, ints))))
    (λ l. (inl (omega (arith, ints)), inr (omega (arith, ints))))

each_piece : (ps : List CutPiece) (s : RationalPoint) → Free s → All IsCutPiece ps → IsOneOrNone (inside_sum (all_triangles ps) s) → All (λ p. IsOneOrNone (edge_turns p.edges s)) ps
each_piece [] s f h o = λ k d l. absurd (omega arith)
each_piece (p ∷ ps) s f h o =
    let r = halves (inside_sum p.triangles s) (inside_sum (all_triangles ps) s)
    (inside_sum (p.triangles ++ all_triangles ps) s) (int_sum_by-append (inside_at s) p.triangles (all_triangles ps))
    (count_not_neg p.triangles s) (count_not_neg (all_triangles ps) s) o in
    All-cons (λ (q : CutPiece). IsOneOrNone (edge_turns q.edges s)) p ps
    (subst IsOneOrNone (sym (cut_turns p.edges p.triangles p.flats s f (All-head IsCutPiece p ps h))) r.0)
    (each_piece ps s f (All-tail IsCutPiece p ps h) r.1)

-- pieces whose triangles keep apart turn once or not at all round each point, and so do all together
pub pieces_share_nothing : (ps : List CutPiece) → All IsCutPiece ps → AllKeepApart (all_triangles ps) → (s : RationalPoint)
    → pos 0 <ℤ s.d → All (λ p. IsOneOrNone (edge_turns p.edges s)) ps × IsOneOrNone (all_turns ps s)
pieces_share_nothing ps h k s d =
    let f = free_shifted s d in
    let o = at_most_one (all_triangles ps) (shifted s) f (all_ccw ps h) k in
    let e = each_piece ps (shifted s) f h o in
    (λ i q l. subst IsOneOrNone (edge_turns-shifted (get_or ps i q).edges s d) (e i q l), subst IsOneOrNone (sym (all_turns_count ps (shifted s) f h) ∙ all_turns-shifted ps s d) o)

-- edges with the net counts of those of pieces and flats turn round each point as the pieces together
pub parcel_is_its_pieces : (es : List (Point × Point)) (flats : List Triangle) (ps : List CutPiece) → All IsFlat flats
    → SameNet same_point es (all_edges ps ++ edges_of_triangles flats) → (s : RationalPoint) → pos 0 <ℤ s.d
    → edge_turns es s ≡ all_turns ps s
parcel_is_its_pieces es flats ps h n s d =
    let f = free_shifted s d in
    sym (edge_turns-shifted es s d) ∙ turned es (all_edges ps) flats (shifted s) f.positive (flats_off flats (shifted s) f h) h n
    ∙ int_sum_by-flat_map (λ (e : Point × Point). crossing e.0 e.1 (shifted s)) (λ (p : CutPiece). p.edges) ps ∙ all_turns-shifted ps s d
