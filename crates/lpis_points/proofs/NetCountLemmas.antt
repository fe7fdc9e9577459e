-- Net counts need comparing only at the edges of the two lists.
use Rattle.std.proofs.Common.{◌≡◌, ℤ, pos, ◌-ℤ◌, ◌+ℤ◌, neg_ℤ, Bool, true, false, cond, ◌&&◌, List, [], ◌∷◌, ◌⊎◌, inl, inr, All, ap, sym, refl, ◌∙◌, subst, arith}
use Rattle.lpis_points.proofs.Common.{ints, Point, same_point}
use Rattle.std.proofs.lemmas.Bool.{and_parts}
use Rattle.std.proofs.lemmas.List.Elements.{All-head, All-tail}
use Rattle.lpis_points.specs.Chain.{net_count, SameNet}
use Rattle.lpis_points.proofs.PointLemmas.{same_point-equality}

-- a list has the edge from a to b, or its reverse, or a net count of 0 there
counted : (a b : Point) (es : List (Point × Point)) (Q : Point → Point → Type 0) → ((x y : Point) → Q x y → Q y x)
    → All (λ (e : Point × Point). Q e.0 e.1) es → Q a b ⊎ (net_count same_point a b es ≡ pos 0)
counted a b [] Q turn h = inr refl
counted a b (e ∷ es) Q turn h = by (same_point a e.0 && same_point b e.1) (same_point b e.0 && same_point a e.1) (net_count same_point a b es)
    (λ t. let r = and_parts (same_point a e.0) (same_point b e.1) t in subst₂' (sym ((same_point-equality a e.0).0 r.0)) (sym ((same_point-equality b e.1).0 r.1)) here)
    (λ t. let r = and_parts (same_point b e.0) (same_point a e.1) t in turn b a (subst₂' (sym ((same_point-equality b e.0).0 r.0)) (sym ((same_point-equality a e.1).0 r.1)) here))
    (counted a b es Q turn (All-tail (λ (g : Point × Point). Q g.0 g.1) e es h))
  where
    here : Q e.0 e.1
    here = All-head (λ (g : Point × Point). Q g.0 g.1) e es h

    subst₂' : {x y x' y' : Point} → x ≡ x' → y ≡ y' → Q x y → Q x' y'
    subst₂' {x} {y} {x'} {y'} p q k = subst (λ (v : Point). Q x' v) q (subst (λ (v : Point). Q v y) p k)

    by : (s t : Bool) (x : ℤ) → (s ≡ true → Q a b) → (t ≡ true → Q a b) → Q a b ⊎ (x ≡ pos 0) → Q a b ⊎ ((cond s (pos 1) (pos 0) -ℤ cond t (pos 1) (pos 0)) +ℤ x ≡ pos 0)
    by true t x f g o = inl (f refl)
    by false true x f g o = inl (g refl)
    by false false x f g (inl q) = inl q
    by false false x f g (inr e) = inr (omega (arith, ints))

-- the net count from b to a is that from a to b with the opposite sign
pub reversed_count : (a b : Point) (es : List (Point × Point)) → net_count same_point b a es ≡ neg_ℤ (net_count same_point a b es)
reversed_count a b [] = refl
reversed_count a b (e ∷ es) = omega (arith, ints, reversed_count a b es)

-- two lists with the same net count at each edge of either have the same net counts
pub net_is_of_its_edges : (es fs : List (Point × Point))
    → All (λ (e : Point × Point). net_count same_point e.0 e.1 es ≡ net_count same_point e.0 e.1 fs) es
    → All (λ (e : Point × Point). net_count same_point e.0 e.1 es ≡ net_count same_point e.0 e.1 fs) fs
    → SameNet same_point es fs
net_is_of_its_edges es fs h k a b n =
    pick (counted a b es Same turn h) (counted a b fs Same turn k)
  where
    Same : Point → Point → Type 0
    Same x y = net_count same_point x y es ≡ net_count same_point x y fs

    turn : (x y : Point) → Same x y → Same y x
    turn x y e = reversed_count x y es ∙ ap neg_ℤ e ∙ sym (reversed_count x y fs)

    pick : Same a b ⊎ (net_count same_point a b es ≡ pos 0) → Same a b ⊎ (net_count same_point a b fs ≡ pos 0) → Same a b
    pick (inl e) o = e
    pick (inr e) (inl f) = f
    pick (inr e) (inr f) = e ∙ sym f
