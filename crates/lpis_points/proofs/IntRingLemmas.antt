-- Machinery: equations of ℤ by normal form. An `Expr` is an integer polynomial over numbered unknowns; `norm`
-- multiplies it out, and `ring` concludes that two expressions have one value wherever their difference has a normal
-- form of zeros.
use Rattle.std.proofs.Common.{◌≡◌, ℕ, zero, suc, ℤ, pos, negsuc, ◌+ℤ◌, ◌-ℤ◌, ◌*ℤ◌, neg_ℤ, Bool, true, false, cond, T, List, [], ◌∷◌, leb, eqb, eqb→eq, ap, ap₂, sym, refl, ◌∙◌, arith}
use Rattle.lpis_points.proofs.Common.{*ℤ_comm, ints}
use Rattle.std.proofs.Math.IntN.{zero-*ℤ}
use Rattle.lpis_points.proofs.IntLemmas.{mul-add_z, mul_assoc_z, one-mul_z}

-- a polynomial over numbered unknowns, as it is written
pub data Expr : Type 0 where
  var : ℕ → Expr
  con : ℤ → Expr
  plus : Expr → Expr → Expr
  times : Expr → Expr → Expr
  minus : Expr → Expr → Expr

-- the sum of two expressions
infixl 6 ◌⊕◌
abbrev pub ◌⊕◌ : Expr → Expr → Expr
a ⊕ b = plus a b

-- the difference of two expressions
infixl 6 ◌⊖◌
abbrev pub ◌⊖◌ : Expr → Expr → Expr
a ⊖ b = minus a b

-- the product of two expressions
infixl 7 ◌⊗◌
abbrev pub ◌⊗◌ : Expr → Expr → Expr
a ⊗ b = times a b

-- the value of unknown k
abbrev pub at : List ℤ → ℕ → ℤ
at [] k = pos 0
at (x ∷ xs) zero = x
at (x ∷ xs) (suc k) = at xs k

-- the value of an expression at the unknowns r
abbrev pub value : List ℤ → Expr → ℤ
value r (var k) = at r k
value r (con z) = z
value r (plus a b) = value r a +ℤ value r b
value r (times a b) = value r a *ℤ value r b
value r (minus a b) = value r a -ℤ value r b

-- ---- normal forms: sorted lists of unknowns, each with a coefficient
pub data Poly : Type 0 where
  none : Poly
  term : ℤ → List ℕ → Poly → Poly

-- the values of the unknowns of a term, multiplied
abbrev pub unknowns : List ℤ → List ℕ → ℤ
unknowns r [] = pos 1
unknowns r (v ∷ m) = at r v *ℤ unknowns r m

-- the value of a normal form: each coefficient times its unknowns, added
abbrev pub total : List ℤ → Poly → ℤ
total r none = pos 0
total r (term c m p) = c *ℤ unknowns r m +ℤ total r p

-- a list of unknowns with v put before the first that is not less
abbrev pub put : ℕ → List ℕ → List ℕ
put v [] = v ∷ []
put v (w ∷ m) = cond (leb v w) (v ∷ (w ∷ m)) (w ∷ put v m)

-- the unknowns of two lists, those of the first put into the second one by one
abbrev pub join : List ℕ → List ℕ → List ℕ
join [] m = m
join (v ∷ n) m = put v (join n m)

-- whether two lists of unknowns are equal
abbrev pub same : List ℕ → List ℕ → Bool
same [] [] = true
same (v ∷ m) (w ∷ n) = cond (eqb v w) (same m n) false
same _ _ = false

-- a normal form with c m added, to the first term with the unknowns m or as a new term at the end
abbrev pub add_term : ℤ → List ℕ → Poly → Poly
add_term c m none = term c m none
add_term c m (term d n p) = cond (same m n) (term (c +ℤ d) n p) (term d n (add_term c m p))

-- the sum of two normal forms
abbrev pub add_all : Poly → Poly → Poly
add_all none q = q
add_all (term c m p) q = add_term c m (add_all p q)

-- the term c m times a normal form
abbrev pub term_times : ℤ → List ℕ → Poly → Poly
term_times c m none = none
term_times c m (term d n p) = add_term (c *ℤ d) (join m n) (term_times c m p)

-- the product of two normal forms
abbrev pub times_all : Poly → Poly → Poly
times_all none q = none
times_all (term c m p) q = add_all (term_times c m q) (times_all p q)

-- an expression multiplied out
abbrev pub norm : Expr → Poly
norm (var k) = term (pos 1) (k ∷ []) none
norm (con z) = term z [] none
norm (plus a b) = add_all (norm a) (norm b)
norm (times a b) = times_all (norm a) (norm b)
norm (minus a b) = add_all (norm a) (term_times (negsuc 0) [] (norm b))

-- whether a number is 0
abbrev pub is_zero_z : ℤ → Bool
is_zero_z (pos zero) = true
is_zero_z _ = false

-- whether each coefficient of a normal form is 0
abbrev pub all_zero : Poly → Bool
all_zero none = true
all_zero (term c m p) = cond (is_zero_z c) (all_zero p) false

-- ---- the normal form has the same value
put_is : (r : List ℤ) (v : ℕ) (m : List ℕ) → unknowns r (put v m) ≡ at r v *ℤ unknowns r m
put_is r v [] = refl
put_is r v (w ∷ m) = by (put_is r v m) (leb v w)
  where
    swap_z : (x y z : ℤ) → y *ℤ (x *ℤ z) ≡ x *ℤ (y *ℤ z)
    swap_z x y z = sym (mul_assoc_z y x z) ∙ ap (λ (t : ℤ). t *ℤ z) (*ℤ_comm y x) ∙ mul_assoc_z x y z

    by : unknowns r (put v m) ≡ at r v *ℤ unknowns r m → (t : Bool) → unknowns r (cond t (v ∷ (w ∷ m)) (w ∷ put v m)) ≡ at r v *ℤ (at r w *ℤ unknowns r m)
    by e true = refl
    by e false = ap (λ (t : ℤ). at r w *ℤ t) e ∙ swap_z (at r v) (at r w) (unknowns r m)

join_is : (r : List ℤ) (n m : List ℕ) → unknowns r (join n m) ≡ unknowns r n *ℤ unknowns r m
join_is r [] m = sym (one-mul_z (unknowns r m))
join_is r (v ∷ n) m =
    put_is r v (join n m) ∙ ap (λ (t : ℤ). at r v *ℤ t) (join_is r n m) ∙ sym (mul_assoc_z (at r v) (unknowns r n) (unknowns r m))

same_is : (m n : List ℕ) → T (same m n) → m ≡ n
same_is [] [] h = refl
same_is (v ∷ m) (w ∷ n) h = by (λ k. same_is m n k) (eqb v w) (λ t. eqb→eq v w t) h
  where
    by : (T (same m n) → m ≡ n) → (t : Bool) → (T t → v ≡ w) → T (cond t (same m n) false) → (v ∷ m) ≡ (w ∷ n)
    by f true e k = ap₂ (λ (x : ℕ) (y : List ℕ). x ∷ y) (e tt) (f k)
    by f false e k = absurd k
same_is _ _ h = absurd h

add_term_is : (r : List ℤ) (c : ℤ) (m : List ℕ) (p : Poly) → total r (add_term c m p) ≡ c *ℤ unknowns r m +ℤ total r p
add_term_is r c m none = refl
add_term_is r c m (term d n p) = by (add_term_is r c m p) (same m n) (same_is m n)
  where
    joined : (c d u p : ℤ) → (c +ℤ d) *ℤ u +ℤ p ≡ c *ℤ u +ℤ (d *ℤ u +ℤ p)
    joined c d u p = let e = mul-add_z u c d in omega (arith, ints, *ℤ_comm u c, *ℤ_comm u d, *ℤ_comm u (c +ℤ d))

    by : total r (add_term c m p) ≡ c *ℤ unknowns r m +ℤ total r p → (t : Bool) → (T t → m ≡ n)
        → total r (cond t (term (c +ℤ d) n p) (term d n (add_term c m p))) ≡ c *ℤ unknowns r m +ℤ
        (d *ℤ unknowns r n +ℤ total r p)
    by i true e = rw (e tt) (joined c d (unknowns r n) (total r p))
    by i false e = omega (arith, ints)

add_all_is : (r : List ℤ) (p q : Poly) → total r (add_all p q) ≡ total r p +ℤ total r q
add_all_is r none q = omega (arith, ints)
add_all_is r (term c m p) q = omega (arith, ints, add_term_is r c m (add_all p q), add_all_is r p q)

term_times_is : (r : List ℤ) (c : ℤ) (m : List ℕ) (p : Poly) → total r (term_times c m p) ≡ (c *ℤ unknowns r m) *ℤ total r p
term_times_is r c m none = omega (arith, ints)
term_times_is r c m (term d n p) =
    add_term_is r (c *ℤ d) (join m n) (term_times c m p) ∙ ap₂ (λ (s t : ℤ). (c *ℤ d) *ℤ s +ℤ t) (join_is r m n) (term_times_is r c m p) ∙ spread c d (unknowns r m) (unknowns r n) (total r p)
  where
    spread : (c d x y p : ℤ) → (c *ℤ d) *ℤ (x *ℤ y) +ℤ (c *ℤ x) *ℤ p ≡ (c *ℤ x) *ℤ (d *ℤ y +ℤ p)
    spread c d x y p = ap (λ (t : ℤ). t +ℤ (c *ℤ x) *ℤ p) (turned) ∙ sym (mul-add_z (c *ℤ x) (d *ℤ y) p)
      where
        turned : (c *ℤ d) *ℤ (x *ℤ y) ≡ (c *ℤ x) *ℤ (d *ℤ y)
        turned =
            mul_assoc_z c d (x *ℤ y) ∙ ap (λ (t : ℤ). c *ℤ t) (sym (mul_assoc_z d x y) ∙ ap (λ (t : ℤ). t *ℤ y) (*ℤ_comm d x) ∙ mul_assoc_z x d y) ∙ sym (mul_assoc_z c x (d *ℤ y))

times_all_is : (r : List ℤ) (p q : Poly) → total r (times_all p q) ≡ total r p *ℤ total r q
times_all_is r none q = sym (zero-*ℤ (total r q))
times_all_is r (term c m p) q =
    add_all_is r (term_times c m q) (times_all p q) ∙ ap₂ (λ (s t : ℤ). s +ℤ t) (term_times_is r c m q) (times_all_is r p q) ∙ gathered (c *ℤ unknowns r m) (total r p) (total r q)
  where
    gathered : (x p q : ℤ) → x *ℤ q +ℤ p *ℤ q ≡ (x +ℤ p) *ℤ q
    gathered x p q = ap₂ (λ (s t : ℤ). s +ℤ t) (*ℤ_comm x q) (*ℤ_comm p q) ∙ sym (mul-add_z q x p) ∙ *ℤ_comm q (x +ℤ p)

norm_is : (r : List ℤ) (e : Expr) → total r (norm e) ≡ value r e
norm_is r (var k) = let e = one-mul_z (at r k *ℤ pos 1) in omega (arith, ints)
norm_is r (con z) = omega (arith, ints)
norm_is r (plus a b) = add_all_is r (norm a) (norm b) ∙ ap₂ (λ (s t : ℤ). s +ℤ t) (norm_is r a) (norm_is r b)
norm_is r (times a b) = times_all_is r (norm a) (norm b) ∙ ap₂ (λ (s t : ℤ). s *ℤ t) (norm_is r a) (norm_is r b)
norm_is r (minus a b) =
    add_all_is r (norm a) (term_times (negsuc 0) [] (norm b)) ∙ ap₂ (λ (s t : ℤ). s +ℤ t) (norm_is r a) (term_times_is r (negsuc 0) [] (norm b) ∙ minus_one (total r (norm b)) ∙ ap neg_ℤ (norm_is r b))
  where
    minus_one : (x : ℤ) → (negsuc 0 *ℤ pos 1) *ℤ x ≡ neg_ℤ x
    minus_one x = omega (arith, ints)

zero_is : (z : ℤ) → T (is_zero_z z) → z ≡ pos 0
zero_is (pos zero) h = refl
zero_is _ h = absurd h

all_zero_is : (r : List ℤ) (p : Poly) → T (all_zero p) → total r p ≡ pos 0
all_zero_is r none h = refl
all_zero_is r (term c m p) h = by (λ k. all_zero_is r p k) (is_zero_z c) (zero_is c) h
  where
    nothing : (x : ℤ) → pos 0 *ℤ x +ℤ pos 0 ≡ pos 0
    nothing x = omega (arith, ints)

    by : (T (all_zero p) → total r p ≡ pos 0) → (t : Bool) → (T t → c ≡ pos 0) → T (cond t (all_zero p) false) → c *ℤ unknowns r m +ℤ total r p ≡ pos 0
    by f true e k = ap₂ (λ (x y : ℤ). x *ℤ unknowns r m +ℤ y) (e tt) (f k) ∙ nothing (unknowns r m)
    by f false e k = absurd k

-- the equation at the unknowns r
pub ring : (r : List ℤ) (a b : Expr) → T (all_zero (norm (minus a b))) → value r a ≡ value r b
ring r a b h = omega (arith, ints, norm_is r (minus a b), all_zero_is r (norm (minus a b)) h)
