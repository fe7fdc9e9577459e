-- A good certificate shows a sound map.
use Rattle.std.specs.Prelude.{⊤}
use Rattle.std.proofs.Common.{◌≡◌, ℕ, suc, ◌-◌, ◌<◌, nat_lt, ℤ, pos, ◌+ℤ◌, ◌*ℤ◌, ◌≤ℤ◌, ◌<ℤ◌, Bool, true, false, cond, List, [], ◌∷◌, ◌++◌, length, get_or, Option, Some, None, inl, inr, ◌↔◌, All, ap}
use Rattle.std.proofs.Common.{sym, refl, ◌∙◌, subst, arith, MatchOption, slice_get}
use Rattle.lpis_checker.proofs.Common.{slice_get-get_or, same_Some, Triangle, edges_of, Piece, Parcel, Contents, pieces_named, Cert, PairLine, PiecePart}
use Rattle.lpis_points.specs.declared.point.Point.{Point}
use Rattle.lpis_points.specs.Plane.{same_point, RationalPoint}
use Rattle.lpis_rings.specs.Map.{edges_of_triangles, KeepApart, AllKeepApart, IsCut, CutPiece, all_triangles, all_turns, IsOneOrNone}
use Rattle.lpis_checker.specs.declared.condition.LineCondition.TheVariants.{Separating}
use Rattle.lpis_checker.specs.declared.condition.ParcelCondition.TheVariants as parcel
use Rattle.lpis_checker.specs.declared.condition.PieceCondition.TheVariants as piece
use Rattle.lpis_checker.specs.declared.condition.Site.TheVariants as site
use Rattle.lpis_checker.proofs.Common.{IsInPiece, IsSoundMap, HoldBelow, NearPairs, triangles_of, polygons_of}
use Rattle.std.specs.List.{IsDistinct}
use Rattle.std.proofs.lemmas.Option.{MatchOption-at_some}
use Rattle.std.proofs.lemmas.List.Elements.{All-cons, All-filter, All-head, All-nil, All-tail}
use Rattle.std.proofs.lemmas.Slice.Eq.{bytes_eq-Decides}
use Rattle.lpis_points.specs.Chain.{SameNet}
use Rattle.lpis_points.specs.Sums.{int_sum_by}
use Rattle.lpis_points.specs.Triangles.{triangle_edges, IsCounterClockwise, IsFlat, Separates, are_apart}
use Rattle.lpis_rings.specs.Edges.{edge_turns, turns}
use Rattle.lpis_rings.specs.Area.{area2}
use Rattle.lpis_rings.proofs.Shared.{pieces_share_nothing, contains_by_one_turn, area_is_positive, area2_is}
use Rattle.lpis_tables.specs.Ids.{same_id}
use Rattle.lpis_release.specs.Release.{names_parcel, parcel_ids}
use Rattle.lpis_tables.specs.Percentages.{most_percent}
use Rattle.lpis_release.specs.Weighted.{areas2, weighted2}
use Rattle.lpis_edge_sums.specs.Counting.{AtMostOne, ExactlyOne}
use Rattle.lpis_edge_sums.specs.Making.{EdgesCancel, TurnsAsParts, turns_of_all}
use Rattle.lpis_checker.specs.SoundMap.{IsInParcel, TurnsTell, AreasAdd}
use Rattle.lpis_checker.specs.GoodCertificate.{EdgeSeparates, IsGood, LineSeparates, OfTriangles, OnLine, SideBySide}
use Rattle.lpis_checker.proofs.DistinctLemmas.{same_index}
use Rattle.lpis_checker.proofs.SiteLemmas.{both_hold, part_beside}
use Rattle.lpis_checker.proofs.WeightLemmas.{weights-between}
use Rattle.lpis_edge_sums.proofs.Shared.{Found, found_any, any_found, all_at, all_from, one_of_some, at_most_one, one_found, total_one, filter_kept, turns_as_parts, area_as_parts}

-- ---- pieces beside their parts
abbrev SameIds : List Piece → List PiecePart → Type 0
SameIds xs ts = (k : ℕ) → SideBySide (λ (x : Piece) (t : PiecePart). t.id ≡ x.id) (slice_get xs k) (slice_get ts k)

-- what the conditions on parts say of a piece
pub record GoodPart (x : Piece) (t : PiecePart) : Type 0 where
  pub some : 0 < length t.triangles
  pub ccw : All IsCounterClockwise t.triangles
  pub flat : All IsFlat t.flats
  pub net : SameNet same_point (edges_of x.polygon) (edges_of_triangles t.triangles ++ edges_of_triangles t.flats)

-- each piece and the part at its index meet these conditions
abbrev pub GoodParts : List Piece → List PiecePart → Type 0
GoodParts xs ts = (k : ℕ) (x : Piece) (t : PiecePart) → slice_get xs k ≡ Some x → slice_get ts k ≡ Some t → GoodPart x t

abbrev cut_piece : Piece → PiecePart → CutPiece
cut_piece x t = record { edges = edges_of x.polygon; triangles = t.triangles; flats = t.flats }

abbrev joined : List Piece → List PiecePart → List CutPiece
joined (x ∷ xs) (t ∷ ts) = cut_piece x t ∷ joined xs ts
joined _ _ = []

abbrev turns_at : RationalPoint → Piece → ℤ
turns_at s x = turns x.polygon s

joined_turns : (xs : List Piece) (ts : List PiecePart) (s : RationalPoint) → SameIds xs ts → all_turns (joined xs ts) s ≡ int_sum_by (turns_at s) xs
joined_turns [] ts s h = refl
joined_turns (x ∷ xs) [] s h = absurd (h 0)
joined_turns (x ∷ xs) (t ∷ ts) s h = ap (λ (z : ℤ). turns x.polygon s +ℤ z) (joined_turns xs ts s (λ k. h (suc k)))

joined_triangles : (xs : List Piece) (ts : List PiecePart) → SameIds xs ts → all_triangles (joined xs ts) ≡ triangles_of ts
joined_triangles [] [] h = refl
joined_triangles [] (t ∷ ts) h = absurd (h 0)
joined_triangles (x ∷ xs) [] h = absurd (h 0)
joined_triangles (x ∷ xs) (t ∷ ts) h = ap (λ (us : List Triangle). t.triangles ++ us) (joined_triangles xs ts (λ k. h (suc k)))

abbrev PartCut : CutPiece → Type 0
PartCut p = IsCut p.edges p.triangles p.flats

joined_cut : (xs : List Piece) (ts : List PiecePart) → GoodParts xs ts → All PartCut (joined xs ts)
joined_cut (x ∷ xs) (t ∷ ts) g =
    let h = g 0 x t refl refl in
    All-cons PartCut (cut_piece x t) (joined xs ts) (record { ccw = h.ccw; flat = h.flat; net = h.net }) (joined_cut xs ts (λ k y u e f. g (suc k) y u e f))
joined_cut _ _ g = All-nil PartCut

abbrev OneAt : RationalPoint → Piece → Type 0
OneAt s x = IsOneOrNone (turns x.polygon s)

abbrev CutOnce : RationalPoint → CutPiece → Type 0
CutOnce s p = IsOneOrNone (edge_turns p.edges s)

joined_one : (xs : List Piece) (ts : List PiecePart) (s : RationalPoint) → SameIds xs ts → All (CutOnce s) (joined xs ts) → All (OneAt s) xs
joined_one [] ts s h a = All-nil (OneAt s)
joined_one (x ∷ xs) [] s h a = absurd (h 0)
joined_one (x ∷ xs) (t ∷ ts) s h a =
    All-cons (OneAt s) x xs (All-head (CutOnce s) (cut_piece x t) (joined xs ts) a) (joined_one xs ts s (λ k. h (suc k)) (All-tail (CutOnce s) (cut_piece x t) (joined xs ts) a))

-- ---- triangles keep apart
keep_apart : (ts : List Triangle) → ((i j : ℕ) (t u : Triangle) → slice_get ts i ≡ Some t → slice_get ts j ≡ Some u → i < j → KeepApart t u) → AllKeepApart ts
keep_apart [] h = tt
keep_apart (t ∷ ts) h = (
  λ k d l. h 0 (suc k) t (get_or ts k d) refl (slice_get-get_or ts k d l) (below k),
  keep_apart ts (λ i j u v e f l. h (suc i) (suc j) u v e f (grown i j l)),
)
  where
    below : (k : ℕ) → 0 < suc k
    below k = omega arith

    grown : (i j : ℕ) → i < j → suc i < suc j
    grown i j l = omega arith

edge_between : (k : ℕ) (t u : Triangle) → EdgeSeparates k t u → (line : Point × Point) × Separates line t u
edge_between k t u h = by (slice_get (triangle_edges t) k) h
  where
    by : (o : Option (Point × Point)) → MatchOption o ⊥ (λ line. Separates line t u) → (line : Point × Point) × Separates line t u
    by None s = absurd s
    by (Some line) s = (line, s)

line_keeps : (k : ℕ) (t u : Triangle) → LineSeparates k t u → KeepApart t u
line_keeps k t u h = by (nat_lt k 3) h
  where
    by : (b : Bool) → cond b (EdgeSeparates k t u) (EdgeSeparates (k - 3) u t) → KeepApart t u
    by true s = inr (inl (edge_between k t u s))
    by false s = inr (inr (edge_between (k - 3) u t s))

good_keeps : (r : Contents) (c : Cert) → IsGood r c → (i j : ℕ) (t u : Triangle) → slice_get (triangles_of c.pieces) i ≡ Some t → slice_get (triangles_of c.pieces) j ≡ Some u → i < j → KeepApart t u
good_keeps r c g i j t u e f l = by (are_apart t u) refl
  where
    near : are_apart t u ≡ false → KeepApart t u
    near n =
        let m = g.holds (site.Pair i j) (record { rising = l; t = t; u = u; at_i = e; at_j = f; near = n }) in
        let ts = triangles_of c.pieces in
        let said = MatchOption-at_some ⊤ (λ (k : PairLine). OfTriangles ts k (OnLine Separating k)) m.1 m.2 (g.holds (site.Line Separating m.0)) in
        let first = MatchOption-at_some ⊥ (λ v. MatchOption (slice_get ts m.1.j) ⊥ (LineSeparates m.1.k v)) t (ap (λ (a : ℕ). slice_get ts a) m.3 ∙ e) said in
        line_keeps m.1.k t u (MatchOption-at_some ⊥ (LineSeparates m.1.k t) u (ap (λ (a : ℕ). slice_get ts a) m.4 ∙ f) first)

    by : (b : Bool) → are_apart t u ≡ b → KeepApart t u
    by true n = inl n
    by false n = near n

-- ---- pieces
-- where the conditions on parts hold, they hold of each piece and the part at its index
pub good_parts : (r : Contents) (c : Cert) → HoldBelow r c NearPairs → GoodParts r.pieces c.pieces
good_parts r c b k x t e f = record {
  some = both_hold _ (slice_get r.pieces k) (slice_get c.pieces k) x t (b.holds (site.Piece piece.Triangles k) (omega arith)) e f;
  ccw = both_hold _ (slice_get r.pieces k) (slice_get c.pieces k) x t (b.holds (site.Piece piece.CounterClockwise k) (omega arith)) e f;
  flat = both_hold _ (slice_get r.pieces k) (slice_get c.pieces k) x t (b.holds (site.Piece piece.Flats k) (omega arith)) e f;
  net = both_hold _ (slice_get r.pieces k) (slice_get c.pieces k) x t (b.holds (site.Piece piece.Edges k) (omega arith)) e f;
}

good_below : (r : Contents) (c : Cert) → IsGood r c → HoldBelow r c NearPairs
good_below r c g = record { holds = λ s l. g.holds s }

-- the pieces' turns are 0 or 1, and so is their sum
record Once (r : Contents) (s : RationalPoint) : Type 0 where
  each : All (OneAt s) r.pieces
  sum : IsOneOrNone (int_sum_by (turns_at s) r.pieces)

once : (r : Contents) (c : Cert) → IsGood r c → (s : RationalPoint) → pos 0 <ℤ s.d → Once r s
once r c g s d =
    let ids : SameIds r.pieces c.pieces = λ k. g.holds (site.Piece piece.Names k) in
    let k : AllKeepApart (all_triangles (joined r.pieces c.pieces)) = subst AllKeepApart (sym (joined_triangles r.pieces c.pieces ids)) (keep_apart (triangles_of c.pieces) (good_keeps r c g)) in
    let both = pieces_share_nothing (joined r.pieces c.pieces) (joined_cut r.pieces c.pieces (good_parts r c (good_below r c g))) k s d in
    record {
      each = joined_one r.pieces c.pieces s ids both.0;
      sum = subst IsOneOrNone (joined_turns r.pieces c.pieces s ids) both.1;
    }

piece_in : (s : RationalPoint) (x : Piece) → OneAt s x → IsInPiece s x ↔ (turns_at s x ≡ pos 1)
piece_in s x o = contains_by_one_turn x.polygon s o

-- ---- parcels
-- the sums over pieces are those over their polygons
piece_turns : (xs : List Piece) (s : RationalPoint) → turns_of_all (polygons_of xs) s ≡ int_sum_by (turns_at s) xs
piece_turns [] s = refl
piece_turns (x ∷ xs) s = ap (λ (z : ℤ). turns x.polygon s +ℤ z) (piece_turns xs s)

piece_areas : (xs : List Piece) → int_sum_by area2 (polygons_of xs) ≡ areas2 xs
piece_areas [] = refl
piece_areas (x ∷ xs) = ap (λ (z : ℤ). area2 x.polygon +ℤ z) (piece_areas xs)

-- flats with which the edges of a parcel and those of its pieces cancel
pub record GoodParcel (r : Contents) (x : Parcel) : Type 0 where
  pub fs : List Triangle
  pub flat : All IsFlat fs
  pub net : EdgesCancel x.polygon (polygons_of (pieces_named r x.id)) fs

-- where the conditions on parts hold, each parcel has such flats
pub good_parcel : (r : Contents) (c : Cert) → HoldBelow r c NearPairs → (k : ℕ) (x : Parcel) → slice_get r.parcels k ≡ Some x → GoodParcel r x
good_parcel r c b k x e =
    let flats = part_beside _ (slice_get r.parcels k) (slice_get c.parcels k) x (b.holds (site.Parcel parcel.Flats k) (omega arith)) e in
    record { fs = flats.0.flats; flat = flats.2; net = both_hold _ (slice_get r.parcels k) (slice_get c.parcels k) x flats.0 (b.holds (site.Parcel parcel.Edges k) (omega arith)) e flats.1 }

-- a parcel with such flats turns round each point as often as its pieces together
pub parcel_turns : (r : Contents) (x : Parcel) → GoodParcel r x → TurnsAsParts x.polygon (polygons_of (pieces_named r x.id))
parcel_turns r x g = turns_as_parts x.polygon (polygons_of (pieces_named r x.id)) g.fs g.flat g.net

-- all that is needed of a parcel at a point
record ParcelFacts (r : Contents) (s : RationalPoint) (x : Parcel) : Type 0 where
  one : IsOneOrNone (turns x.polygon s)
  each : All (OneAt s) (pieces_named r x.id)
  sum : turns x.polygon s ≡ int_sum_by (turns_at s) (pieces_named r x.id)

parcel_at : (r : Contents) (c : Cert) → IsGood r c → (s : RationalPoint) → pos 0 <ℤ s.d → (k : ℕ) (x : Parcel) → slice_get r.parcels k ≡ Some x → ParcelFacts r s x
parcel_at r c g s d k x e =
    let o = once r c g s d in
    let p = parcel_turns r x (good_parcel r c (good_below r c g) k x e) in
    let t = p.turns_add s d ∙ piece_turns (pieces_named r x.id) s in
    record {
      one = subst IsOneOrNone (sym t) (one_of_some (turns_at s) (names_parcel x.id) r.pieces o.each o.sum);
      each = All-filter (names_parcel x.id) (OneAt s) r.pieces o.each;
      sum = t;
    }

parcel_in : (r : Contents) (s : RationalPoint) (x : Parcel) → ParcelFacts r s x → IsInParcel s x ↔ (turns x.polygon s ≡ pos 1)
parcel_in r s x a = contains_by_one_turn x.polygon s a.one

-- a piece of the parcel that contains the point, where the parcel does
inside_found : (r : Contents) (s : RationalPoint) (x : Parcel) → ParcelFacts r s x → IsInParcel s x → Found (IsInPiece s) (pieces_named r x.id)
inside_found r s x a h =
    let f = one_found (turns_at s) (pieces_named r x.id) a.each (sym a.sum ∙ (parcel_in r s x a).0 h) in
    record { index = f.index; item = f.item; at = f.at; has = (piece_in s f.item (all_at (OneAt s) (pieces_named r x.id) f.index f.item f.at a.each)).1 f.has }

found_inside : (r : Contents) (s : RationalPoint) (x : Parcel) → ParcelFacts r s x → Found (IsInPiece s) (pieces_named r x.id) → IsInParcel s x
found_inside r s x a f =
    (parcel_in r s x a).1 (a.sum ∙ total_one (turns_at s) (pieces_named r x.id) a.each (subst IsOneOrNone a.sum a.one)
    (record {
      index = f.index;
      item = f.item;
      at = f.at;
      has = (piece_in s f.item (all_at (OneAt s) (pieces_named r x.id) f.index f.item f.at a.each)).0 f.has;
    }))

few_pieces : (s : RationalPoint) (xs : List Piece) → All (OneAt s) xs → IsOneOrNone (int_sum_by (turns_at s) xs) → AtMostOne (IsInPiece s) xs
few_pieces s xs h o i j a b e f p q =
    at_most_one (turns_at s) xs h o i j a b e f ((piece_in s a (all_at (OneAt s) xs i a e h)).0 p) ((piece_in s b (all_at (OneAt s) xs j b f h)).0 q)

few_parcels : (r : Contents) (c : Cert) → IsDistinct same_id (parcel_ids r.parcels) → IsGood r c → (s : RationalPoint) → pos 0 <ℤ s.d → AtMostOne (IsInParcel s) r.parcels
few_parcels r c n g s d i j a b e f p q =
    let o = once r c g s d in
    let x = inside_found r s a (parcel_at r c g s d i a e) p in
    let y = inside_found r s b (parcel_at r c g s d j b f) q in
    let v = filter_kept (names_parcel a.id) r.pieces x.index x.item x.at in
    let w = filter_kept (names_parcel b.id) r.pieces y.index y.item y.at in
    let m : v.index ≡ w.index = few_pieces s r.pieces o.each o.sum v.index w.index x.item y.item v.at w.at x.has y.has in
    let z : x.item ≡ y.item = same_Some x.item y.item (sym v.at ∙ ap (λ (k : ℕ). slice_get r.pieces k) m ∙ w.at) in
    same_index r.parcels n i j a b e f ((bytes_eq-Decides a.id x.item.parcel).0 v.passes ∙ ap (λ (t : Piece). t.parcel) z ∙ sym ((bytes_eq-Decides b.id y.item.parcel).0 w.passes))

-- exactly one of its pieces contains a point that the parcel contains
parcel_iff : (r : Contents) (s : RationalPoint) (x : Parcel) → ParcelFacts r s x → IsInParcel s x ↔ ExactlyOne (IsInPiece s) (pieces_named r x.id)
parcel_iff r s x a = (
  λ h. (found_any (IsInPiece s) (pieces_named r x.id) (inside_found r s x a h), few_pieces s (pieces_named r x.id) a.each (subst IsOneOrNone a.sum a.one)),
  λ h. found_inside r s x a (any_found (IsInPiece s) (pieces_named r x.id) h.0),
)

all_parcels : (r : Contents) (c : Cert) → IsGood r c → (s : RationalPoint) → pos 0 <ℤ s.d → All (λ (k : Parcel). IsInParcel s k ↔ ExactlyOne (IsInPiece s) (pieces_named r k.id)) r.parcels
all_parcels r c g s d =
    all_from (λ (x : Parcel). IsInParcel s x ↔ ExactlyOne (IsInPiece s) (pieces_named r x.id)) r.parcels (λ k x e. parcel_iff r s x (parcel_at r c g s d k x e))

-- ---- areas
abbrev HasArea : Piece → Type 0
HasArea x = pos 0 <ℤ area2 x.polygon

piece_area : (x : Piece) (t : PiecePart) → GoodPart x t → HasArea x
piece_area x t g = subst (λ (z : ℤ). pos 0 <ℤ z) (area2_is x.polygon) (area_is_positive (edges_of x.polygon) t.triangles t.flats (record { ccw = g.ccw; flat = g.flat; net = g.net }) g.some)

parcel_area : (r : Contents) (x : Parcel) → GoodParcel r x → area2 x.polygon ≡ areas2 (pieces_named r x.id)
parcel_area r x g = area_as_parts x.polygon (polygons_of (pieces_named r x.id)) g.fs g.flat g.net ∙ piece_areas (pieces_named r x.id)

-- where the conditions on parts hold, a piece has an area, a parcel that of its pieces, and weighted ones are bounded
pub areas_add : (r : Contents) (c : Cert) → HoldBelow r c NearPairs → AreasAdd r
areas_add r c b = record {
  pieces = each;
  parcels = all_from (λ (x : Parcel). area2 x.polygon ≡ areas2 (pieces_named r x.id)) r.parcels parcel;
  weighted = all_from (λ (x : Parcel). (pos 0 ≤ℤ weighted2 r x.id) × (weighted2 r x.id ≤ℤ (pos most_percent *ℤ area2 x.polygon))) r.parcels (λ k x e.
      let few = weights-between r.classes (pieces_named r x.id) (All-filter (names_parcel x.id) HasArea r.pieces each) in
      (few.0, subst (λ (z : ℤ). weighted2 r x.id ≤ℤ (pos most_percent *ℤ z)) (sym (parcel k x e)) few.1));
}
  where
    each : All HasArea r.pieces
    each = all_from HasArea r.pieces (λ k x e.
        let p = part_beside _ (slice_get r.pieces k) (slice_get c.pieces k) x (b.holds (site.Piece piece.Names k) (omega arith)) e in
        piece_area x p.0 (good_parts r c b k x p.0 e p.1))

    parcel : (k : ℕ) (x : Parcel) → slice_get r.parcels k ≡ Some x → area2 x.polygon ≡ areas2 (pieces_named r x.id)
    parcel k x e = parcel_area r x (good_parcel r c b k x e)

-- ---- the theorem
-- a release whose parcels have distinct identifiers, and for which a certificate is good, is a sound map
pub good_means_sound : (r : Contents) (c : Cert) → IsDistinct same_id (parcel_ids r.parcels) → IsGood r c → IsSoundMap r
good_means_sound r c n g = record {
  off = record {
    one_parcel = λ s d off. few_parcels r c n g s d;
    filled = λ s d off. all_parcels r c g s d;
  };
  everywhere = record {
    one_piece = λ s d. let o = once r c g s d in few_pieces s r.pieces o.each o.sum;
    one_parcel = λ s d. few_parcels r c n g s d;
    filled = λ s d. all_parcels r c g s d;
  };
  turns = record {
    pieces = λ s d. let o = once r c g s d in all_from (λ (x : Piece). TurnsTell (IsInPiece s x) (turns x.polygon s))
        r.pieces (λ k x e. let one = all_at (OneAt s) r.pieces k x e o.each in (one, piece_in s x one));
    parcels = λ s d. all_from (λ (x : Parcel). TurnsTell (IsInParcel s x) (turns x.polygon s)) r.parcels (λ k x e. let a = parcel_at r c g s d k x e in (a.one, parcel_in r s x a));
  };
  areas = areas_add r c (good_below r c g);
}

-- a piece of the parcel at a point that the parcel contains
pub no_gap : (r : Contents) (c : Cert) → IsGood r c → (s : RationalPoint) → pos 0 <ℤ s.d → (k : ℕ) (x : Parcel)
    → slice_get r.parcels k ≡ Some x → IsInParcel s x → All (λ (y : Piece). IsInPiece s y → ⊥) (pieces_named r x.id) → ⊥
no_gap r c g s d k x e h none =
    let f = inside_found r s x (parcel_at r c g s d k x e) h in
    all_at (λ (y : Piece). IsInPiece s y → ⊥) (pieces_named r x.id) f.index f.item f.at none f.has
