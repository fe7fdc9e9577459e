-- A point is in a polygon where the number of edges that it crosses is odd, in whichever direction each ring is walked.
use Rattle.std.proofs.Common.{◌≡◌, ℕ, ◌+◌, ◌%◌, ◌<◌, ◌≤◌, ℤ, pos, ◌*ℤ◌, neg_ℤ, int_lt, int_eq, Bool, true, false, ◌↔◌}
use Rattle.std.proofs.Common.{cond, not, zero, suc, append-nil, append_assoc, List, [], ◌∷◌, ◌++◌, length, reverse, flat_map, drop, get_or, ap, sym, refl, ◌∙◌, arith}
use Rattle.std.proofs.lemmas.Int.{ints}
use Rattle.std.proofs.lemmas.List.{drop_all, drop_more, reverse-append}
use Rattle.lpis_points.specs.declared.point.Point.{Point}
use Rattle.lpis_points.specs.Plane.{RationalPoint, crossing_of}
unfoldable use Rattle.lpis_points.specs.Plane.{crossing}
use Rattle.lpis_points.proofs.Shared.{crossing-odd}
use Rattle.lpis_rings.specs.Area.{steps}
use Rattle.lpis_rings.specs.declared.polygon.Member.{Member}
use Rattle.lpis_rings.specs.Edges.{Contains, crossed, edges_of, member_edges, walk}
unfoldable use Rattle.lpis_rings.specs.Edges.{hole_edges, shell_edges}
use Rattle.lpis_places.specs.declared.edges.Edge.{Edge}
use Rattle.lpis_places.specs.private.Insides.{drawn, drawn_member, drawn_members, drawn_rings, flipped, is_crossed}

-- ---- an edge
-- an edge with both ends above a height, or both not, is not crossed there
level : (s t y o : ℤ) → int_lt y s ≡ int_lt y t → crossing_of s t y o ≡ pos 0
level s t y o h = grind (arith, ints)

-- so it is of two corners
pub not_passed : (a b : Point) (p : RationalPoint) → int_lt p.y (a.y *ℤ p.d) ≡ int_lt p.y (b.y *ℤ p.d) → is_crossed p a b ≡ false
unfolding crossing
not_passed a b p h = rw (level (a.y *ℤ p.d) (b.y *ℤ p.d) p.y _ h) refl

none_back : (z : ℤ) → not (int_eq (neg_ℤ z) (pos 0)) ≡ not (int_eq z (pos 0))
none_back z = grind (arith, ints)

-- an edge is crossed in both directions, or in none
pub crossed_back : (p : RationalPoint) (a b : Point) → is_crossed p b a ≡ is_crossed p a b
crossed_back p a b = ap (λ (z : ℤ). not (int_eq z (pos 0))) ((crossing-odd p).reversed a b) ∙ none_back (crossing a b p)

abbrev one : Bool → ℕ
one is = cond is 1 0

-- how many edges of a ring are crossed, and of rings, a member and members
abbrev crossed_in : RationalPoint → List Point → ℕ
crossed_in p [] = 0
crossed_in p (a ∷ []) = 0
crossed_in p (a ∷ (b ∷ ps)) = one (is_crossed p a b) + crossed_in p (b ∷ ps)

abbrev count : RationalPoint → List Edge → ℕ
count p [] = 0
count p (e ∷ es) = one (is_crossed p e.from e.to) + count p es

-- ---- a ring
kept : (b : Bool) (e : Point × Point) (es : List (Point × Point)) → length (cond b (e ∷ es) es) ≡ one b + length es
kept true e es = omega arith
kept false e es = omega arith

counted : (p : RationalPoint) (ps : List Point) → length (crossed (steps ps) p) ≡ crossed_in p ps
counted p (a ∷ (b ∷ ps)) = kept (is_crossed p a b) (a, b) (crossed (steps (b ∷ ps)) p) ∙ ap (λ (n : ℕ). one (is_crossed p a b) + n) (counted p (b ∷ ps))
counted p (a ∷ []) = refl
counted p [] = refl

push : (p : RationalPoint) (xs : List Point) (y z : Point) → crossed_in p ((xs ++ y ∷ []) ++ z ∷ []) ≡ crossed_in p (xs ++ y ∷ []) + one (is_crossed p y z)
push p (x ∷ (w ∷ xs)) y z = omega (arith, push p (w ∷ xs) y z)
push p (x ∷ []) y z = omega arith
push p [] y z = omega arith

reverse-cons : (a : Point) (xs : List Point) → reverse (a ∷ xs) ≡ reverse xs ++ a ∷ []
reverse-cons a xs = reverse-append (a ∷ []) xs

-- walked backwards, a ring has as many
backwards : (p : RationalPoint) (ps : List Point) → crossed_in p (reverse ps) ≡ crossed_in p ps
backwards p (a ∷ (b ∷ ps)) =
    ap (crossed_in p) (reverse-cons a (b ∷ ps) ∙ ap (λ (xs : List Point). xs ++ a ∷ []) (reverse-cons b ps))
    ∙ push p (reverse ps) b a ∙ turned _ _ _ _ (ap (crossed_in p) (sym (reverse-cons b ps)) ∙ backwards p (b ∷ ps)) (ap one (crossed_back p a b))
  where
    turned : (x y v w : ℕ) → x ≡ y → w ≡ v → x + w ≡ v + y
    turned x y v w e g = omega (arith, e, g)
backwards p (a ∷ []) = refl
backwards p [] = refl

walked : (p : RationalPoint) (t : Bool) (ps : List Point) → length (crossed (steps (walk t ps)) p) ≡ crossed_in p ps
walked p true ps = counted p (reverse ps) ∙ backwards p ps
walked p false ps = counted p ps

shell : (p : RationalPoint) (ps : List Point) → length (crossed (shell_edges ps) p) ≡ crossed_in p ps
unfolding shell_edges
shell p ps = walked p _ ps

hole : (p : RationalPoint) (ps : List Point) → length (crossed (hole_edges ps) p) ≡ crossed_in p ps
unfolding hole_edges
hole p ps = walked p _ ps

-- as many as of the edges that are listed
listed : (p : RationalPoint) (ps : List Point) → crossed_in p ps ≡ count p (drawn ps)
listed p [] = refl
listed p (a ∷ []) = refl
listed p (a ∷ (b ∷ ps)) = ap (λ (n : ℕ). one (is_crossed p a b) + n) (listed p (b ∷ ps))

-- ---- rings
apart : (p : RationalPoint) (es fs : List (Point × Point)) → length (crossed (es ++ fs) p) ≡ length (crossed es p) + length (crossed fs p)
apart p [] fs = omega arith
apart p (e ∷ es) fs = omega (arith, kept (is_crossed p e.0 e.1) e (crossed (es ++ fs) p), kept (is_crossed p e.0 e.1) e (crossed es p), apart p es fs)

both : (p : RationalPoint) (es fs : List Edge) → count p (es ++ fs) ≡ count p es + count p fs
both p [] fs = omega arith
both p (e ∷ es) fs = omega (arith, both p es fs)

holes : (p : RationalPoint) (hs : List (List Point)) → length (crossed (flat_map hole_edges hs) p) ≡ count p (drawn_rings hs)
holes p [] = refl
holes p (h ∷ hs) = omega (arith, apart p (hole_edges h) (flat_map hole_edges hs), hole p h, listed p h, both p (drawn h) (drawn_rings hs), holes p hs)

member : (p : RationalPoint) (m : Member) → length (crossed (member_edges m) p) ≡ count p (drawn_member m)
member p m = omega (arith, apart p (shell_edges m.shell) (flat_map hole_edges m.holes), shell p m.shell, listed p m.shell, both p (drawn m.shell) (drawn_rings m.holes), holes p m.holes)

-- the edges that are crossed are as many as those of the rings as written
crossed_all : (p : RationalPoint) (ms : List Member) → length (crossed (edges_of ms) p) ≡ count p (drawn_members ms)
crossed_all p [] = refl
crossed_all p (m ∷ ms) = omega (arith, apart p (member_edges m) (edges_of ms), member p m, both p (drawn_member m) (drawn_members ms), crossed_all p ms)

-- ---- turned round at each crossed edge
abbrev is_odd : ℕ → Bool
is_odd zero = false
is_odd (suc n) = not (is_odd n)

-- whether it is odd, by what is left of it
record IsOddOrEven (n : ℕ) : Type 0 where
  odd : (is_odd n ≡ true) → n % 2 ≡ 1
  even : (is_odd n ≡ false) → n % 2 ≡ 0

not_true : (b : Bool) → not b ≡ true → b ≡ false
not_true false e = refl
not_true true e = absurd (clash e)
  where
    clash : false ≡ true → ⊥
    clash e = cc

not_false : (b : Bool) → not b ≡ false → b ≡ true
not_false true e = refl
not_false false e = absurd (clash e)
  where
    clash : true ≡ false → ⊥
    clash e = cc

after_even : (n : ℕ) → n % 2 ≡ 0 → suc n % 2 ≡ 1
after_even n e = omega (arith, e)

after_odd : (n : ℕ) → n % 2 ≡ 1 → suc n % 2 ≡ 0
after_odd n e = omega (arith, e)

none_left : zero % 2 ≡ 0
none_left = omega arith

no_clash : (P : Type 0) → false ≡ true → P
no_clash P e = absurd (clash e)
  where
    clash : false ≡ true → ⊥
    clash e = cc

odd_or_even : (n : ℕ) → IsOddOrEven n
odd_or_even zero = record { odd = λ e. no_clash (zero % 2 ≡ 1) e; even = λ e. none_left }
odd_or_even (suc n) =
    let before = odd_or_even n in
    record { odd = λ e. after_even n (before.even (not_true (is_odd n) e)); even = λ e. after_odd n (before.odd (not_false (is_odd n) e)) }

odd-is : (n : ℕ) → (is_odd n ≡ true) ↔ (n % 2 ≡ 1)
odd-is n = (λ e. (odd_or_even n).odd e, λ e. by (is_odd n) refl e)
  where
    unlike : n % 2 ≡ 1 → n % 2 ≡ 0 → ⊥
    unlike e f = omega (arith, e, f)

    by : (b : Bool) → is_odd n ≡ b → n % 2 ≡ 1 → is_odd n ≡ true
    by true e h = e
    by false e h = absurd (unlike h ((odd_or_even n).even e))

-- what was said first is turned round with the rest
flipped-not : (b : Bool) (p : RationalPoint) (es : List Edge) → flipped (not b) p es ≡ not (flipped b p es)
flipped-not b p [] = refl
flipped-not b p (e ∷ es) = by (is_crossed p e.from e.to) (flipped-not (not b) p es) (flipped-not b p es)
  where
    by : (c : Bool) → flipped (not (not b)) p es ≡ not (flipped (not b) p es) → flipped (not b) p es ≡ not (flipped b p es)
        → flipped (cond c (not (not b)) (not b)) p es ≡ not (flipped (cond c (not b) b) p es)
    by true h k = h
    by false h k = k

flipped_odd : (p : RationalPoint) (es : List Edge) → flipped false p es ≡ is_odd (count p es)
flipped_odd p [] = refl
flipped_odd p (e ∷ es) = by (is_crossed p e.from e.to) (flipped_odd p es)
  where
    one_more : (n : ℕ) → is_odd (1 + n) ≡ not (is_odd n)
    one_more n = ap is_odd (first n)
      where
        first : (n : ℕ) → 1 + n ≡ suc n
        first n = omega arith

    none_more : (n : ℕ) → is_odd (0 + n) ≡ is_odd n
    none_more n = ap is_odd (same n)
      where
        same : (n : ℕ) → 0 + n ≡ n
        same n = omega arith

    by : (c : Bool) → flipped false p es ≡ is_odd (count p es) → flipped (cond c (not false) false) p es ≡ is_odd (one c + count p es)
    by true h = flipped-not false p es ∙ ap not h ∙ sym (one_more (count p es))
    by false h = h ∙ sym (none_more (count p es))

-- all edges of a polygon tell whether a point is in it
pub flipped_all : (p : RationalPoint) (ms : List Member) → (flipped false p (drawn_members ms) ≡ true) ↔ Contains ms p
flipped_all p ms =
    let odd = odd-is (count p (drawn_members ms)) in
    let said = flipped_odd p (drawn_members ms) in
    let many = ap (λ (n : ℕ). n % 2) (crossed_all p ms) in
    (λ e. many ∙ odd.0 (sym said ∙ e), λ e. said ∙ odd.1 (sym many ∙ e))

-- ---- as the loops go
-- one item more
taken : {A : Type 0} (xs : List A) (i : ℕ) (x : A) → i < length xs → x ≡ get_or xs i x → drop i xs ≡ x ∷ drop (i + 1) xs
taken {A} xs i x l is = drop_more xs i x l ∙ ap (λ (y : A). y ∷ drop (i + 1) xs) (sym is)

-- one edge more is looked at
pub flipped_next : (b c n whole : Bool) (p : RationalPoint) (es : List Edge) (i : ℕ) (e : Edge) → i < length es → e ≡ get_or es i e → c ≡ is_crossed p e.from e.to → n ≡ cond c (not b) b
    → flipped b p (drop i es) ≡ whole → flipped n p (drop (i + 1) es) ≡ whole
flipped_next b c n whole p es i e l is d f h =
    ap (λ (a : Bool). flipped a p (drop (i + 1) es)) (f ∙ ap (λ (a : Bool). cond a (not b) b) d) ∙ sym (ap (flipped b p) (taken es i e l is)) ∙ h

-- no edge is left
pub flipped_end : (b whole : Bool) (p : RationalPoint) (es : List Edge) (i : ℕ) → length es ≤ i → flipped b p (drop i es) ≡ whole → b ≡ whole
flipped_end b whole p es i l h = sym (ap (flipped b p) (drop_all i es l)) ∙ h

-- one edge more is drawn
pub draw_next : (xs ys whole : List Edge) (a b : Point) (ps : List Point) (i : ℕ) → i < length ps → b ≡ get_or ps i b → ys ≡ xs ++ record { from = a; to = b } ∷ []
    → xs ++ drawn (a ∷ drop i ps) ≡ whole → ys ++ drawn (b ∷ drop (i + 1) ps) ≡ whole
draw_next xs ys whole a b ps i l is e h =
    ap (λ (es : List Edge). es ++ drawn (b ∷ drop (i + 1) ps)) e ∙ append_assoc xs (record { from = a; to = b } ∷ []) (drawn (b ∷ drop (i + 1) ps))
    ∙ sym (ap (λ (qs : List Point). xs ++ drawn (a ∷ qs)) (taken ps i b l is)) ∙ h

-- no point is left
pub draw_end : (xs whole : List Edge) (a : Point) (ps : List Point) (i : ℕ) → length ps ≤ i → xs ++ drawn (a ∷ drop i ps) ≡ whole → xs ≡ whole
draw_end xs whole a ps i l h = sym (append-nil xs) ∙ sym (ap (λ (qs : List Point). xs ++ drawn (a ∷ qs)) (drop_all i ps l)) ∙ h

-- one ring more
pub rings_next : (xs ys whole : List Edge) (rs : List (List Point)) (i : ℕ) (r : List Point) → i < length rs → r ≡ get_or rs i r → ys ≡ xs ++ drawn r
    → xs ++ drawn_rings (drop i rs) ≡ whole → ys ++ drawn_rings (drop (i + 1) rs) ≡ whole
rings_next xs ys whole rs i r l is e h =
    ap (λ (es : List Edge). es ++ drawn_rings (drop (i + 1) rs)) e ∙ append_assoc xs (drawn r) (drawn_rings (drop (i + 1) rs)) ∙ sym
    (ap (λ (qs : List (List Point)). xs ++ drawn_rings qs) (taken rs i r l is)) ∙ h

-- no ring is left
pub rings_end : (xs whole : List Edge) (rs : List (List Point)) (i : ℕ) → length rs ≤ i → xs ++ drawn_rings (drop i rs) ≡ whole → xs ≡ whole
rings_end xs whole rs i l h = sym (append-nil xs) ∙ sym (ap (λ (qs : List (List Point)). xs ++ drawn_rings qs) (drop_all i rs l)) ∙ h

-- one member more
pub members_next : (xs ys whole : List Edge) (ms : List Member) (i : ℕ) (m : Member) → i < length ms → m ≡ get_or ms i m → ys ≡ xs ++ drawn_member m
    → xs ++ drawn_members (drop i ms) ≡ whole → ys ++ drawn_members (drop (i + 1) ms) ≡ whole
members_next xs ys whole ms i m l is e h =
    ap (λ (es : List Edge). es ++ drawn_members (drop (i + 1) ms)) e ∙ append_assoc xs (drawn_member m) (drawn_members (drop (i + 1) ms)) ∙ sym
    (ap (λ (qs : List Member). xs ++ drawn_members qs) (taken ms i m l is)) ∙ h

-- no member is left
pub members_end : (xs whole : List Edge) (ms : List Member) (i : ℕ) → length ms ≤ i → xs ++ drawn_members (drop i ms) ≡ whole → xs ≡ whole
members_end xs whole ms i l h = sym (append-nil xs) ∙ sym (ap (λ (qs : List Member). xs ++ drawn_members qs) (drop_all i ms l)) ∙ h

-- an edge in the midst of others
pub flipped_past : (b : Bool) (p : RationalPoint) (es fs : List Edge) (e : Edge) → flipped b p (es ++ e ∷ fs) ≡ flipped (cond (is_crossed p e.from e.to) (not b) b) p (es ++ fs)
flipped_past b p [] fs e = refl
flipped_past b p (g ∷ es) fs e = flipped_past (cond (is_crossed p g.from g.to) (not b) b) p es fs e ∙ by (is_crossed p g.from g.to) (is_crossed p e.from e.to)
  where
    by : (c d : Bool) → flipped (cond d (not (cond c (not b) b)) (cond c (not b) b)) p (es ++ fs) ≡ flipped (cond c (not (cond d (not b) b)) (cond d (not b) b)) p (es ++ fs)
    by true true = refl
    by true false = refl
    by false true = refl
    by false false = refl

-- an edge that all points of a box cross, or none, is left out
pub left_out : (b c n : Bool) (p : RationalPoint) (es fs : List Edge) (e : Edge) → is_crossed p e.from e.to ≡ c → n ≡ cond c (not b) b → flipped n p (es ++ fs) ≡ flipped b p (es ++ e ∷ fs)
left_out b c n p es fs e h d = ap (λ (a : Bool). flipped a p (es ++ fs)) (d ∙ sym (ap (λ (a : Bool). cond a (not b) b) h)) ∙ sym (flipped_past b p es fs e)

-- one edge more was looked at
pub looked_next : (b n whole : Bool) (p : RationalPoint) (ks ls es : List Edge) (i : ℕ) (e : Edge) → i < length es → e ≡ get_or es i e
    → ((fs : List Edge) → flipped n p (ls ++ fs) ≡ flipped b p (ks ++ e ∷ fs)) → flipped b p (ks ++ drop i es) ≡ whole → flipped n p (ls ++ drop (i + 1) es) ≡ whole
looked_next b n whole p ks ls es i e l is f h = f (drop (i + 1) es) ∙ sym (ap (λ (xs : List Edge). flipped b p (ks ++ xs)) (taken es i e l is)) ∙ h

-- no edge is left to look at
pub looked_end : (b whole : Bool) (p : RationalPoint) (ks es : List Edge) (i : ℕ) → length es ≤ i → flipped b p (ks ++ drop i es) ≡ whole → flipped b p ks ≡ whole
looked_end b whole p ks es i l h = sym (ap (flipped b p) (append-nil ks)) ∙ sym (ap (λ (xs : List Edge). flipped b p (ks ++ xs)) (drop_all i es l)) ∙ h
