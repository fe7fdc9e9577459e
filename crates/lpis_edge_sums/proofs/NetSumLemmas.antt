-- Sums over signed edges are net counts.
use Rattle.std.proofs.Common.{◌≡◌, ◌≢◌, ℤ, pos, negsuc, ◌+ℤ◌, ◌-ℤ◌, neg_ℤ, Bool, true, false, not, ◌&&◌, cond, List, [], ◌∷◌, ◌++◌, Some, None, inl, inr, ap, ap₂, sym, refl, ◌∙◌, ◌↔◌, IsTrue, subst}
use Rattle.std.proofs.Common.{arith}
use Rattle.lpis_edge_sums.proofs.Common.{ints, Point, same_point, SignedEdge, edge_sign, sum_at}
use Rattle.lpis_points.specs.Chain.{is_edge, net_count, SameNet}
use Rattle.lpis_points.proofs.Shared.{edge_sum-append, reversed_count}
use Rattle.lpis_edge_sums.specs.private.SignedEdges.{is_at, SumsAreZero, is_low, IsSigned, signed_by, low_count, Grows}
use Rattle.lpis_edge_sums.proofs.RunLemmas.{sum_at-append}
use Rattle.lpis_edge_sums.proofs.PointOrderLemmas.{both_same, low_asym, point_tie_alone}

clash : {P : Type 0} (t : Bool) → t ≡ true → t ≡ false → P
clash t u v = cc

low_differs : (a b : Point) → is_low a b ≡ true → a ≢ b
low_differs a b h e = clash (is_low a b) h (ap (λ (z : Point). is_low z b) e ∙ ap (λ (z : Point). is_low b z) (sym e) ∙ low_asym a b h)

-- what an edge adds between p and q, the lesser first
abbrev pub adds : Point → Point → Point → Point → ℤ
adds p q a b = cond (is_low p q) (is_edge same_point p q a b -ℤ is_edge same_point q p a b) (pos 0)

-- of an edge whose first point is the lesser
straight : (p q a b : Point) → is_low a b ≡ true → cond (same_point p a && same_point q b) (pos 1) (pos 0) ≡ adds p q a b
straight p q a b h = by (same_point p a && same_point q b) (same_point q a && same_point p b) (is_low p q)
    (λ t. let r = (both_same p a q b).0 t in ap₂ is_low r.0 r.1 ∙ h)
    (λ t. let r = (both_same q a p b).0 t in ap₂ is_low r.1 r.0 ∙ low_asym a b h)
  where
    by : (s t l : Bool) → (s ≡ true → l ≡ true) → (t ≡ true → l ≡ false) → cond s (pos 1) (pos 0) ≡ cond l (cond s (pos 1) (pos 0) -ℤ cond t (pos 1) (pos 0)) (pos 0)
    by true true l f g = clash l (f refl) (g refl)
    by true false true f g = refl
    by true false false f g = clash false (f refl) refl
    by false true true f g = clash true refl (g refl)
    by false true false f g = refl
    by false false true f g = refl
    by false false false f g = refl

turned : (p q a b : Point) → adds p q b a ≡ neg_ℤ (adds p q a b)
turned p q a b = by (is_low p q) (same_point p a) (same_point q b) (same_point q a) (same_point p b)
  where
    by : (l s t u v : Bool) → cond l (cond (v && u) (pos 1) (pos 0) -ℤ cond (t && s) (pos 1) (pos 0)) (pos 0) ≡ neg_ℤ (cond l (cond (s && t) (pos 1) (pos 0) -ℤ cond (u && v) (pos 1) (pos 0)) (pos 0))
    by false s t u v = refl
    by true true true true true = refl
    by true true true true false = refl
    by true true true false true = refl
    by true true true false false = refl
    by true true false true true = refl
    by true true false true false = refl
    by true true false false true = refl
    by true true false false false = refl
    by true false true true true = refl
    by true false true true false = refl
    by true false true false true = refl
    by true false true false false = refl
    by true false false true true = refl
    by true false false true false = refl
    by true false false false true = refl
    by true false false false false = refl

weighted : (s t : Bool) (z : ℤ) → cond s (pos 1) (pos 0) ≡ z → cond s (cond t (pos 1) (negsuc 0)) (pos 0) ≡ signed_by t z
weighted true false z e = omega (arith, ints)
weighted false false z e = omega (arith, ints)
weighted _ _ z e = e

-- what a signed edge adds
edge_adds : (a b : Point) (t : Bool) (e : SignedEdge) → IsSigned a b t (Some e) → (p q : Point) → cond (is_at p q e) (edge_sign e) (pos 0) ≡ signed_by t (adds p q a b)
edge_adds a b t e (inl h) p q =
    ap₂ (λ (u v : Point). cond (same_point p u && same_point q v) (edge_sign e) (pos 0)) h.1 h.2
    ∙ ap (λ (w : Bool). cond (same_point p a && same_point q b) (cond w (pos 1) (negsuc 0)) (pos 0)) h.3
    ∙ weighted (same_point p a && same_point q b) t (adds p q a b) (straight p q a b h.0)
edge_adds a b t e (inr h) p q =
    ap₂ (λ (u v : Point). cond (same_point p u && same_point q v) (edge_sign e) (pos 0)) h.1 h.2
    ∙ ap (λ (w : Bool). cond (same_point p b && same_point q a) (cond w (pos 1) (negsuc 0)) (pos 0)) h.3
    ∙ weighted (same_point p b && same_point q a) (not t) (adds p q b a) (straight p q b a h.0)
    ∙ flipped t (adds p q a b) (adds p q b a) (turned p q a b)
  where
    flipped : (t : Bool) (z w : ℤ) → w ≡ neg_ℤ z → signed_by (not t) w ≡ signed_by t z
    flipped true z w e = omega (arith, ints)
    flipped false z w e = e

-- an edge from a point to itself adds nothing
loop_adds : (a b : Point) (t : Bool) → IsSigned a b t None → (p q : Point) → signed_by t (adds p q a b) ≡ pos 0
loop_adds a b t h p q = ap (λ (z : Point). signed_by t (adds p q a z)) (sym (point_tie_alone a b h.0 h.1)) ∙ by t (is_low p q) (same_point p a) (same_point q a)
  where
    by : (t l u v : Bool) → signed_by t (cond l (cond (u && v) (pos 1) (pos 0) -ℤ cond (v && u) (pos 1) (pos 0)) (pos 0)) ≡ pos 0
    by true false u v = refl
    by false false u v = refl
    by true true true true = refl
    by true true true false = refl
    by true true false true = refl
    by true true false false = refl
    by false true true true = refl
    by false true true false = refl
    by false true false true = refl
    by false true false false = refl

-- ---- growing by one edge
alone : (l : Bool) (z : ℤ) → cond l (z +ℤ pos 0) (pos 0) ≡ cond l z (pos 0)
alone true z = omega (arith, ints)
alone false z = refl

one_count : (p q a b : Point) → low_count p q ((a, b) ∷ []) ≡ adds p q a b
one_count p q a b = alone (is_low p q) (is_edge same_point p q a b -ℤ is_edge same_point q p a b)

-- with its signed edge pushed, the sums grow by the edge from a to b, or shrink by it
pub grows_by_pushed : (t : Bool) (a b : Point) (e : SignedEdge) (xs ys : List SignedEdge) → IsSigned a b t (Some e) → ys ≡ xs ++ e ∷ [] → Grows t ((a, b) ∷ []) xs ys
grows_by_pushed t a b e xs ys h k = record {
  sums = λ p q.
      ap (sum_at p q) k ∙ sum_at-append p q xs (e ∷ []) ∙ ap (λ (z : ℤ). sum_at p q xs +ℤ z)
      (last (cond (is_at p q e) (edge_sign e) (pos 0)) ∙ edge_adds a b t e h p q
      ∙ sym (ap (signed_by t) (one_count p q a b)));
}
  where
    last : (z : ℤ) → z +ℤ pos 0 ≡ z
    last z = omega (arith, ints)

-- a list that stays as it is has grown by an edge from a point to itself
pub grows_by_loop : {xs ys : List SignedEdge} (t : Bool) (a b : Point) → IsSigned a b t None → ys ≡ xs → Grows t ((a, b) ∷ []) xs ys
grows_by_loop {xs} {ys} t a b h k =
    record {
      sums = λ p q. same (sum_at p q xs) (sum_at p q ys) (signed_by t (low_count p q ((a, b) ∷ [])))
          (ap (sum_at p q) k) (ap (signed_by t) (one_count p q a b) ∙ loop_adds a b t h p q);
    }
  where
    same : (s r z : ℤ) → r ≡ s → z ≡ pos 0 → r ≡ s +ℤ z
    same s r z e f = omega (arith, ints)

-- ---- growing by lists
low_count-append : (p q : Point) (es fs : List (Point × Point)) → low_count p q (es ++ fs) ≡ low_count p q es +ℤ low_count p q fs
low_count-append p q es fs = by (is_low p q) (edge_sum-append (λ u v. is_edge same_point p q u v -ℤ is_edge same_point q p u v) es fs)
  where
    by : (l : Bool) → net_count same_point p q (es ++ fs) ≡ net_count same_point p q es +ℤ net_count same_point p q fs
        → cond l (net_count same_point p q (es ++ fs)) (pos 0) ≡ cond l (net_count same_point p q es) (pos 0) +ℤ cond l
        (net_count same_point p q fs) (pos 0)
    by true e = e
    by false e = refl

signed_sum : (t : Bool) (x y z : ℤ) → z ≡ x +ℤ y → signed_by t z ≡ signed_by t x +ℤ signed_by t y
signed_sum true x y z e = e
signed_sum false x y z e = omega (arith, ints)

signed-append : (t : Bool) (p q : Point) (es fs : List (Point × Point)) → signed_by t (low_count p q (es ++ fs)) ≡ signed_by t (low_count p q es) +ℤ signed_by t (low_count p q fs)
signed-append t p q es fs = signed_sum t (low_count p q es) (low_count p q fs) (low_count p q (es ++ fs)) (low_count-append p q es fs)

-- one list after another
pub grows_then : {t : Bool} {es fs : List (Point × Point)} {xs ys zs : List SignedEdge} → Grows t es xs ys → Grows t fs ys zs → Grows t (es ++ fs) xs zs
grows_then {t} {es} {fs} {xs} {ys} {zs} h k =
    record {
      sums = λ p q. by (sum_at p q xs) (sum_at p q ys) (sum_at p q zs) (signed_by t (low_count p q es))
          (signed_by t (low_count p q fs)) (signed_by t (low_count p q (es ++ fs))) (h.sums p q) (k.sums p q)
          (signed-append t p q es fs);
    }
  where
    by : (a b c x y z : ℤ) → b ≡ a +ℤ x → c ≡ b +ℤ y → z ≡ x +ℤ y → c ≡ a +ℤ z
    by a b c x y z e f g = omega (arith, ints)

-- on the way through a list, of which these edges are left
pub record Growing (added : Bool) (left all : List (Point × Point)) (old now : List SignedEdge) : Type 0 where
  pub sums : (a b : Point) → sum_at a b now +ℤ signed_by added (low_count a b left) ≡ sum_at a b old +ℤ signed_by added (low_count a b all)

-- at the start of a list of edges all are left, and no sum has changed
pub growing_none : {left all : List (Point × Point)} {xs : List SignedEdge} (t : Bool) → left ≡ all → Growing t left all xs xs
growing_none {xs = xs} t e = record { sums = λ p q. ap (λ (es : List (Point × Point)). sum_at p q xs +ℤ signed_by t (low_count p q es)) e }

-- once the sums have grown by the first of the edges that are left, only those behind them are left
pub growing_more : {t : Bool} {es left next all : List (Point × Point)} {xs ys zs : List SignedEdge} → left ≡ es ++ next → Growing t left all xs ys → Grows t es ys zs → Growing t next all xs zs
growing_more {t} {es} {left} {next} {all} {xs} {ys} {zs} e h k =
    record {
      sums = λ p q. by (sum_at p q ys) (sum_at p q zs) (signed_by t (low_count p q es))
          (signed_by t (low_count p q next)) (signed_by t (low_count p q left))
          (sum_at p q xs +ℤ signed_by t (low_count p q all)) (h.sums p q) (k.sums p q)
          (ap (λ (fs : List (Point × Point)). signed_by t (low_count p q fs)) e ∙ signed-append t p q es next);
    }
  where
    by : (b c x y z w : ℤ) → b +ℤ z ≡ w → c ≡ b +ℤ x → z ≡ x +ℤ y → c +ℤ y ≡ w
    by b c x y z w e f g = omega (arith, ints)

-- where no edges are left, the sums have grown by all of them
pub growing_all : {t : Bool} {left all : List (Point × Point)} {xs ys : List SignedEdge} → left ≡ [] → Growing t left all xs ys → Grows t all xs ys
growing_all {t} {all = all} {xs} {ys} e h =
    record {
      sums = λ p q. by t (is_low p q) (sum_at p q ys) (sum_at p q xs +ℤ signed_by t (low_count p q all))
          (ap (λ (fs : List (Point × Point)). sum_at p q ys +ℤ signed_by t (low_count p q fs)) (sym e) ∙ h.sums p q);
    }
  where
    by : (t l : Bool) (b w : ℤ) → b +ℤ signed_by t (cond l (pos 0) (pos 0)) ≡ w → b ≡ w
    by true false b w e = omega (arith, ints)
    by false false b w e = omega (arith, ints)
    by _ _ b w e = omega (arith, ints)

-- ---- equal net counts

-- one list added to nothing and another taken away
difference : (es fs : List (Point × Point)) (xs ys : List SignedEdge) → Grows true es [] xs → Grows false fs xs ys → (p q : Point) → sum_at p q ys ≡ low_count p q es -ℤ low_count p q fs
difference es fs xs ys h k p q = by (sum_at p q xs) (sum_at p q ys) (low_count p q es) (low_count p q fs) (h.sums p q) (k.sums p q)
  where
    by : (b c x y : ℤ) → b ≡ pos 0 +ℤ x → c ≡ b +ℤ neg_ℤ y → c ≡ x -ℤ y
    by b c x y e f = omega (arith, ints)

zero_is_same : (es fs : List (Point × Point)) → ((p q : Point) → low_count p q es ≡ low_count p q fs) → SameNet same_point es fs
zero_is_same es fs h a b n = by (is_low a b) (is_low b a) refl refl
  where
    here : (p q : Point) (l : Bool) → is_low p q ≡ l → l ≡ true → net_count same_point p q es ≡ net_count same_point p q fs
    here p q l e f = told l f (ap (λ (t : Bool). cond t (net_count same_point p q es) (pos 0)) (sym e) ∙ h p q ∙ ap (λ (t : Bool). cond t (net_count same_point p q fs) (pos 0)) e)
      where
        told : {x y : ℤ} (l : Bool) → l ≡ true → cond l x (pos 0) ≡ cond l y (pos 0) → x ≡ y
        told true f e = e
        told false f e = clash false f refl

    by : (s t : Bool) → is_low a b ≡ s → is_low b a ≡ t → net_count same_point a b es ≡ net_count same_point a b fs
    by true t e f = here a b true e refl
    by false true e f = reversed_count b a es ∙ ap neg_ℤ (here b a true f refl) ∙ sym (reversed_count b a fs)
    by false false e f = absurd (n (point_tie_alone a b e f))

same_is_zero : (es fs : List (Point × Point)) → SameNet same_point es fs → (p q : Point) → low_count p q es ≡ low_count p q fs
same_is_zero es fs s p q = by (is_low p q) refl
  where
    by : (l : Bool) → is_low p q ≡ l → cond l (net_count same_point p q es) (pos 0) ≡ cond l (net_count same_point p q fs) (pos 0)
    by true t = s p q (low_differs p q t)
    by false t = refl

zero_when_same : (es fs : List (Point × Point)) (xs ys : List SignedEdge) → Grows true es [] xs → Grows false fs xs ys → SumsAreZero ys ↔ SameNet same_point es fs
zero_when_same es fs xs ys h k = (
  λ z. zero_is_same es fs (λ p q. equal (low_count p q es) (low_count p q fs) (sum_at p q ys) (difference es fs xs ys h k p q) (z p q)),
  λ s. λ p q. less (low_count p q es) (low_count p q fs) (sum_at p q ys) (difference es fs xs ys h k p q) (same_is_zero es fs s p q),
)
  where
    equal : (x y s : ℤ) → s ≡ x -ℤ y → s ≡ pos 0 → x ≡ y
    equal x y s e f = omega (arith, ints)

    less : (x y s : ℤ) → s ≡ x -ℤ y → x ≡ y → s ≡ pos 0
    less x y s e f = omega (arith, ints)

-- one list added to nothing and two taken away
pub cancels_when_same : {es fs gs : List (Point × Point)} {none xs ys zs : List SignedEdge} (b : Bool) → none ≡ []
    → Grows true es none xs → Grows false fs xs ys → Grows false gs ys zs → (IsTrue b ↔ SumsAreZero zs) → IsTrue b
    ↔ SameNet same_point es (fs ++ gs)
cancels_when_same {es} {fs} {gs} {xs = xs} {zs = zs} b e h k l c =
    let z = zero_when_same es (fs ++ gs) xs zs (subst (λ (us : List SignedEdge). Grows true es us xs) e h) (grows_then k l) in
    (λ t. z.0 (c.0 t), λ s. c.1 (z.1 s))
