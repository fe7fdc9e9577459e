-- What looking at pieces finds of points.
use Rattle.std.proofs.Common.{◌≡◌, ℕ, ◌<◌, List, [], ◌∷◌, ◌++◌, All, false, Contains, length, get_or, Option, Some, None, ◌⊎◌, inl, inr, refl, ap, sym, ◌∙◌, subst, arith, slice_get}
use Rattle.std.proofs.Math.ListN.{set}
use Rattle.std.proofs.lemmas.Bool.{cases_eq}
use Rattle.std.proofs.lemmas.List.{get_or-set_other, get_or-set_same, length-set}
use Rattle.std.proofs.lemmas.List.Elements.{All-append, All-cons, All-nil, Contains-append_left, Contains-append_right}
use Rattle.std.proofs.lemmas.Option.{get_or_from_slice_get, same_Some, slice_get-get_or, slice_get_within}
use Rattle.lpis_points.specs.Plane.{RationalPoint}
use Rattle.lpis_tables.specs.declared.piece.Piece.{Piece}
use Rattle.lpis_release.specs.Release.{Contents}
use Rattle.lpis_checker.specs.SoundMap.{IsInPiece}
use Rattle.lpis_places.specs.declared.edges.Edge.{Edge}
use Rattle.lpis_places.specs.declared.index.Slot.{Slot}
use Rattle.lpis_places.specs.declared.place.Place.{Place}
use Rattle.lpis_places.specs.Places.{AreFoundIn, AreKept, FindsIn, IsKept, IsPlace}
use Rattle.lpis_places.specs.Points.{Given, rational_at}
use Rattle.lpis_places.specs.private.Insides.{drawn_members}
use Rattle.lpis_places.proofs.InsideLemmas.{flipped_all}
use Rattle.lpis_places.proofs.ListLemmas.{among_at}
use Rattle.lpis_places.proofs.PartLemmas.{IsParted, piece_named}
use Rattle.lpis_places.specs.private.Visits.{DoTell, AreSettled, AreTouched, AreVisited, IsPlaceBy, IsSettled, IsTouched, IsVisited}

abbrev Places : Type 0
Places = List (Option Place)

-- ---- an item of a list is changed
changed : {A : Type 0} (xs : List A) (i : ℕ) (x : A) → i < length xs → slice_get (set xs i x) i ≡ Some x
changed xs i x l = slice_get-get_or (set xs i x) i x (rw length-set l) ∙ ap Some (get_or-set_same xs i x x l)

unchanged : {A : Type 0} (xs : List A) (i j : ℕ) (x y : A) → (j ≡ i → ⊥) → slice_get (set xs i x) j ≡ Some y → slice_get xs j ≡ Some y
unchanged xs i j x y n e =
    let l : j < length xs = rw length-set at (slice_get_within (set xs i x) j y e) in
    slice_get-get_or xs j y l ∙ ap Some (sym (get_or-set_other xs i j x y n) ∙ get_or_from_slice_get (set xs i x) j y y e)

-- the item at an index
item : {A : Type 0} (xs : List A) (i : ℕ) (n : ℕ) → n ≡ length xs → i < n → (x : A) × (slice_get xs i ≡ Some x)
item [] i n e l = absurd (omega (arith, e))
item (x ∷ xs) i n e l = (get_or (x ∷ xs) i x, slice_get-get_or (x ∷ xs) i x (omega (arith, e)))

same : {A : Type 0} (o : Option A) (x y : A) → o ≡ Some x → o ≡ Some y → x ≡ y
same o x y e f = same_Some x y (sym e ∙ f)

-- ---- one piece
touched_itself : (k : Piece) (p : RationalPoint) (f : Option Place) → IsTouched k p f f
touched_itself k p None = tt
touched_itself k p (Some a) = refl

touched_then : (k : Piece) (p : RationalPoint) (f m h : Option Place) → IsTouched k p f m → IsTouched k p m h → IsTouched k p f h
touched_then k p (Some a) m h e t = subst (λ (o : Option Place). IsTouched k p o h) e t
touched_then k p None (Some a) h b e = subst (λ (o : Option Place). IsTouched k p None o) (sym e) b
touched_then k p None None h u t = t

-- nothing was looked at
pub untouched : (k : Piece) (ps : List Given) (old : Places) → AreTouched k ps old old
untouched k ps old = record {
  as_many = refl;
  each = λ i g f h e d b. subst (λ (o : Option Place). IsTouched k g.at f o) (same (slice_get old i) f h d b) (touched_itself k g.at f);
}

-- the place of one row was looked at
pub touched_at : (k : Piece) (ps : List Given) (old : Places) (i : ℕ) (g : Given) (o x : Option Place) → slice_get ps i ≡ Some g → i < length old → o ≡ get_or old i o
    → IsTouched k g.at o x → AreTouched k ps old (set old i x)
touched_at k ps old i g o x at l is t = record {
  as_many = length-set old i x;
  each = λ j v f h e d b. by j v f h e d b (cases_eq j i);
}
  where
    was : slice_get old i ≡ Some o
    was = slice_get-get_or old i o l ∙ ap Some (sym is)

    by : (j : ℕ) (v : Given) (f h : Option Place) → slice_get ps j ≡ Some v → slice_get old j ≡ Some f → slice_get (set old i x) j ≡ Some h → (j ≡ i) ⊎ (j ≡ i → ⊥) → IsTouched k v.at f h
    by j v f h e d b (inl s) =
        let vg : g ≡ v = same (slice_get ps i) g v at (rw s at e) in
        let fo : o ≡ f = same (slice_get old i) o f was (rw s at d) in
        let hx : x ≡ h = same (slice_get (set old i x) i) x h (changed old i x l) (rw s at b) in
        rw (← vg, ← fo, ← hx) t
    by j v f h e d b (inr n) = subst (λ (q : Option Place). IsTouched k v.at f q) (same (slice_get old j) f h d (unchanged old i j x h n b)) (touched_itself k v.at f)

-- and its point is not in the piece, if it has none
pub settled_at : (k : Piece) (ps : List Given) (old : Places) (i : ℕ) (g : Given) (x : Option Place) → slice_get ps i ≡ Some g → i < length old → (x ≡ None → IsInPiece g.at k → ⊥)
    → IsSettled k ps (set old i x) i
settled_at k ps old i g x at l h v e none inside =
    h (same (slice_get (set old i x) i) x None (changed old i x l) none) (subst (λ (w : Given). IsInPiece w.at k) (same (slice_get ps i) v g e at) inside)

-- and then another
pub touched_more : (k : Piece) (ps : List Given) (a b c : Places) → AreTouched k ps a b → AreTouched k ps b c → AreTouched k ps a c
touched_more k ps a b c t u = record {
  as_many = u.as_many ∙ t.as_many;
  each = λ i g f h e d n.
      let m = item b i (length a) (sym t.as_many) (slice_get_within a i f d) in
      touched_then k g.at f m.0 h (t.each i g f m.0 e d m.1) (u.each i g m.0 h e m.1 n);
}

none_stays : (k : Piece) (p : RationalPoint) (m : Option Place) → IsTouched k p m None → m ≡ None
none_stays k p None t = refl
none_stays k p (Some a) t = cc

-- what is settled stays so
pub still_settled : (k : Piece) (ps : List Given) (b c : Places) (i : ℕ) → AreTouched k ps b c → IsSettled k ps b i → IsSettled k ps c i
still_settled k ps b c i t s g e none =
    let m = item b i (length c) t.as_many (slice_get_within c i None none) in
    s g e (m.1 ∙ ap Some (none_stays k g.at m.0 (t.each i g m.0 None e m.1 none)))

-- so it is of all rows of slots
pub still_all : (k : Piece) (ps : List Given) (b c : Places) (slots : List Slot) → AreTouched k ps b c → AreSettled k ps b slots → AreSettled k ps c slots
still_all k ps b c slots t settled i d l = still_settled k ps b c (get_or slots i d).row t (settled i d l)

-- all edges of a piece tell of each point
pub all_tell : (k : Piece) (edges : List Edge) (slots : List Slot) → edges ≡ drawn_members k.polygon → All (DoTell k false edges) slots
all_tell k edges slots e i d l = subst (λ (es : List Edge). DoTell k false es (get_or slots i d)) (sym e) (flipped_all (rational_at (get_or slots i d).spot) k.polygon)

-- ---- pieces
-- all rows were looked at
pub visited_by : (k : Piece) (ps : List Given) (old new : Places) → AreTouched k ps old new → ((i : ℕ) → i < length ps → IsSettled k ps new i) → AreVisited (k ∷ []) ps old new
visited_by k ps old new t s = record {
  as_many = t.as_many;
  each = λ i g f h e d b. by i g f h e b (t.each i g f h e d b);
}
  where
    by : (i : ℕ) (g : Given) (f h : Option Place) → slice_get ps i ≡ Some g → slice_get new i ≡ Some h → IsTouched k g.at f h → IsVisited (k ∷ []) g.at f h
    by i g (Some a) h e b u = u
    by i g None (Some a) e b u = (k, (0, omega arith, refl), u)
    by i g None None e b u = All-cons (λ (x : Piece). IsInPiece g.at x → ⊥) k [] (s i (slice_get_within ps i g e) g e b) (All-nil (λ (x : Piece). IsInPiece g.at x → ⊥))

-- no piece was looked at
pub visited_none : (ps : List Given) (old : Places) → AreVisited [] ps old old
visited_none ps old = record {
  as_many = refl;
  each = λ i g f h e d b. subst (λ (o : Option Place). IsVisited [] g.at f o) (same (slice_get old i) f h d b) (by g f);
}
  where
    by : (g : Given) (f : Option Place) → IsVisited [] g.at f f
    by g (Some a) = refl
    by g None = All-nil (λ (x : Piece). IsInPiece g.at x → ⊥)

visited_then : (ks ls : List Piece) (p : RationalPoint) (f m h : Option Place) → IsVisited ks p f m → IsVisited ls p m h → IsVisited (ks ++ ls) p f h
visited_then ks ls p (Some a) m h e t = by h (subst (λ (o : Option Place). IsVisited ls p o h) e t)
  where
    by : (h : Option Place) → IsVisited ls p (Some a) h → IsVisited (ks ++ ls) p (Some a) h
    by h t = t
visited_then ks ls p None (Some a) h b e = subst (λ (o : Option Place). IsVisited (ks ++ ls) p None o) (sym e) (b.0, Contains-append_left ks ls b.0 b.1, b.2)
visited_then ks ls p None None (Some a) n b = (b.0, Contains-append_right ks ls b.0 b.1, b.2)
visited_then ks ls p None None None n b = All-append (λ (x : Piece). IsInPiece p x → ⊥) ks ls n b

-- pieces, and others after them
pub visited_more : (ks ls : List Piece) (ps : List Given) (a b c : Places) → AreVisited ks ps a b → AreVisited ls ps b c → AreVisited (ks ++ ls) ps a c
visited_more ks ls ps a b c t u = record {
  as_many = u.as_many ∙ t.as_many;
  each = λ i g f h e d n.
      let m = item b i (length a) (sym t.as_many) (slice_get_within a i f d) in
      visited_then ks ls g.at f m.0 h (t.each i g f m.0 e d m.1) (u.each i g m.0 h e m.1 n);
}

-- the place in a piece of the release
place_in_release : (r : Contents) (k : Piece) (p : RationalPoint) (a : Place) → IsParted r p → Contains r.pieces k → IsPlaceBy p k a → IsPlace r p a
place_in_release r k p a parted among s =
    let x = parted.of_piece k among s.in_piece in (
      record {
        x = x.x;
        is_parcel = x.is_parcel;
        parcel_id = x.id ∙ sym s.parcel_is;
        in_parcel = x.in_parcel;
        y = k;
        is_piece = rw s.parcel_is (piece_named r k among);
        piece_id = sym s.piece_is;
        in_piece = s.in_piece;
      },
      sym s.class_is,
    )

-- all pieces of the release
pub found_in : (r : Contents) (ps : List Given) (old new : Places) → ((g : Given) → Contains ps g → IsParted r g.at) → AreVisited r.pieces ps old new → AreFoundIn r ps old new
found_in r ps old new parted v = record {
  as_many = v.as_many;
  each = λ i g f h e d b. by g.at f h (parted g (among_at ps i g e)) (v.each i g f h e d b);
}
  where
    by : (p : RationalPoint) (f h : Option Place) → IsParted r p → IsVisited r.pieces p f h → FindsIn r p f h
    by p (Some a) h w e = e
    by p None None w n = w.of_none n
    by p None (Some a) w v = place_in_release r v.0 p a w v.1 v.2

-- what was found is kept where all were looked at
pub kept_of_found : (r : Contents) (ps : List Given) (old new : Places) → AreFoundIn r ps old new → AreKept r ps old new
kept_of_found r ps old new v = record {
  as_many = v.as_many;
  each = λ i g f h e d b. by g.at f h (v.each i g f h e d b);
}
  where
    by : (p : RationalPoint) (f h : Option Place) → FindsIn r p f h → IsKept r p f h
    by p (Some a) h e = e
    by p None None n = tt
    by p None (Some a) w = w

-- and where it stopped at a piece
pub kept_so_far : (r : Contents) (ks ls : List Piece) (k : Piece) (ps : List Given) (a b c : Places) → ((g : Given) → Contains ps g → IsParted r g.at) → r.pieces ≡ ks ++ ls → Contains r.pieces k
    → AreVisited ks ps a b → AreTouched k ps b c → AreKept r ps a c
kept_so_far r ks ls k ps a b c parted all among v t = record {
  as_many = t.as_many ∙ v.as_many;
  each = λ i g f h e d n.
      let m = item b i (length a) (sym v.as_many) (slice_get_within a i f d) in
      by g.at f m.0 h (parted g (among_at ps i g e)) (v.each i g f m.0 e d m.1) (t.each i g m.0 h e m.1 n);
}
  where
    by : (p : RationalPoint) (f m h : Option Place) → IsParted r p → IsVisited ks p f m → IsTouched k p m h → IsKept r p f h
    by p (Some x) m h w e u = kept h (subst (λ (o : Option Place). IsTouched k p o h) e u)
      where
        kept : (h : Option Place) → IsTouched k p (Some x) h → IsKept r p (Some x) h
        kept h u = u
    by p None (Some x) h w v u =
        let is : Contains r.pieces v.0 = subst (λ (xs : List Piece). Contains xs v.0) (sym all) (Contains-append_left ks ls v.0 v.1) in
        subst (λ (o : Option Place). IsKept r p None o) (sym u) (place_in_release r v.0 p x w is v.2)
    by p None None (Some x) w n u = place_in_release r k p x w among u
    by p None None None w n u = tt
