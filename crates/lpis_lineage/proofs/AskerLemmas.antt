-- Whom each of several askers reaches, by bits.
use Rattle.std.proofs.Common.{◌≡◌, ◌≢◌, ◌∙◌, ◌<◌, ◌≤◌, ◌+◌, ◌*◌, ◌/◌, ◌^◌, ◌%◌, refl, sym, ap, subst, arith, ℕ, zero, suc, max, List, [], ◌∷◌}
use Rattle.std.proofs.Common.{◌++◌, length, Bool, true, false, Option, None, Some, IfSome, cond, take, get_or}
use Rattle.std.proofs.Common.{◌&&◌, ◌||◌, ◌==◌, filter, nat_lt, bit_and, rules}
use Rattle.std.specs.Int.{bit_at, w128}
use Rattle.std.specs.Int.RustNames.{bit_or}
use Rattle.std.proofs.lemmas.Nat.Bits.{bit_at_or, bit_at-zero, bit_at-lt, bit_at_set_same, bit_at_set_other, shr_and_one}
use Rattle.lpis_lineage.proofs.Common.{nat_tests, Row, Entry, same_id, is_this, last_live, all_rows}
use Rattle.lpis_lineage.specs.Order.{IsAscending}
use Rattle.lpis_lineage.specs.Tracings.{AreTraced, reached_by}
use Rattle.lpis_lineage.specs.private.Following.{AllReach, IsFreshRow, Reaches, askers_in, has_asker, with_asked, with_askers}
use Rattle.lpis_lineage.proofs.ChainLemmas.{reach-none, reach-skip, reach-join, reach-start, live-reached}
use Rattle.lpis_lineage.proofs.IdentifierLemmas.{same-exact, same-sym}
use Rattle.lpis_lineage.proofs.TellingLemmas.{take-at}
use Rattle.std.proofs.lemmas.List.{append-nil}
use Rattle.lpis_lineage.proofs.PickingLemmas.{ascending-filter}

if-some : {A : Type 0} (P Q : A → Type 0) (o : Option A) → ((x : A) → P x → Q x) → IfSome o P → IfSome o Q
if-some P Q None f p = p
if-some P Q (Some x) f p = f x p

-- ---- bits
-- a bit of two numbers joined
bit-join : (a b j : ℕ) → (bit_at (bit_or a b) j == 1) ≡ ((bit_at a j == 1) || (bit_at b j == 1))
bit-join a b j = ap (λ (n : ℕ). n == 1) (bit_at_or a b j) ∙ by (bit_at a j) (bit_at b j) (bit_at-lt a j) (bit_at-lt b j) where
  by : (m n : ℕ) → m < 2 → n < 2 → (max m n == 1) ≡ ((m == 1) || (n == 1))
  by zero zero x y = refl
  by zero (suc zero) x y = refl
  by (suc zero) zero x y = refl
  by (suc zero) (suc zero) x y = refl
  by (suc (suc m)) n x y = absurd (omega (arith, x))
  by m (suc (suc n)) x y = absurd (omega (arith, y))

-- zero has no bit
no-bit : (n j : ℕ) → n ≡ 0 → (bit_at n j == 1) ≡ false
no-bit n j e = ap (λ (m : ℕ). bit_at m j == 1) e ∙ ap (λ (m : ℕ). m == 1) (bit_at-zero j)

alone : (x j : ℕ) → bit_at (bit_or 0 x) j ≡ bit_at x j
alone x j = bit_at_or 0 x j ∙ ap (λ (m : ℕ). max m (bit_at x j)) (bit_at-zero j) ∙ by (bit_at x j) (bit_at-lt x j) where
  by : (n : ℕ) → n < 2 → max 0 n ≡ n
  by zero lt = refl
  by (suc zero) lt = refl
  by (suc (suc n)) lt = absurd (omega (arith, lt))

one-same : (i : ℕ) → i < 128 → (bit_at (1 * 2 ^ i % 2 ^ 128) i == 1) ≡ true
one-same i lt = ap (λ (m : ℕ). m == 1) (sym (alone (1 * 2 ^ i % 2 ^ 128) i) ∙ bit_at_set_same w128 0 i lt)

one-other : (i j : ℕ) → i < 128 → j ≢ i → (bit_at (1 * 2 ^ i % 2 ^ 128) j == 1) ≡ false
one-other i j lt ne = ap (λ (m : ℕ). m == 1) (sym (alone (1 * 2 ^ i % 2 ^ 128) j) ∙ bit_at_set_other w128 0 i lt j ne ∙ bit_at-zero j)

-- ---- askers added
-- what an identifier had with what comes
pub joined : (old new : List ℕ → Option ℕ) (id : List ℕ) (known all coming : ℕ) → known ≡ askers_in (old id) → all ≡ bit_or known coming
    → ((q : List ℕ) → new q ≡ cond (same_id id q) (Some all) (old q)) → (q : List ℕ) (j : ℕ)
    → has_asker j (new q) ≡ cond (same_id id q) (has_asker j (old q) || (bit_at coming j == 1)) (has_asker j (old q))
joined old new id known all coming k a n q j =
    ap (has_asker j) (n q) ∙ by (same_id id q) refl where
      by : (b : Bool) → b ≡ same_id id q → has_asker j (cond b (Some all) (old q)) ≡ cond b (has_asker j (old q) || (bit_at coming j == 1)) (has_asker j (old q))
      by true e = ap (λ (m : ℕ). bit_at m j == 1) a ∙ bit-join known coming j
          ∙ ap (λ (m : ℕ). (bit_at m j == 1) || (bit_at coming j == 1)) (k ∙ ap (λ (z : List ℕ). askers_in (old z)) (same-exact id q (sym e)))
      by false e = refl

-- it had them all
pub nothing-new : (old : List ℕ → Option ℕ) (id : List ℕ) (known all coming : ℕ) → known ≡ askers_in (old id) → all ≡ bit_or known coming → all ≡ known
    → (q : List ℕ) (j : ℕ) → has_asker j (old q) ≡ cond (same_id id q) (has_asker j (old q) || (bit_at coming j == 1)) (has_asker j (old q))
nothing-new old id known all coming k a s q j = by (same_id id q) refl where
  by : (b : Bool) → b ≡ same_id id q → has_asker j (old q) ≡ cond b (has_asker j (old q) || (bit_at coming j == 1)) (has_asker j (old q))
  by true e =
      let here : askers_in (old q) ≡ known = ap (λ (z : List ℕ). askers_in (old z)) (sym (same-exact id q (sym e))) ∙ sym k in
      ap (λ (m : ℕ). bit_at m j == 1) (here ∙ sym s ∙ a) ∙ bit-join known coming j ∙ ap (λ (m : ℕ). (bit_at m j == 1) || (bit_at coming j == 1)) (sym here)
  by false e = refl

-- ---- one row more
pub all-none : (reached : List ℕ → Option ℕ) (rows : List Row) (r : Row) (asked : List (Option (List ℕ))) → AllReach reached rows asked → IsFreshRow rows r
    → r.new ≡ None → AllReach reached (rows ++ r ∷ []) asked
all-none reached rows r asked all fresh none = record {
  each = λ j lt. if-some _ _ (get_or asked j None) (λ id x. reach-none (λ q. has_asker j (reached q)) rows r id x fresh none) (all.each j lt);
}

-- one row more, whose old identifier nobody reaches
pub all-skip : (reached : List ℕ → Option ℕ) (rows : List Row) (r : Row) (asked : List (Option (List ℕ))) → AllReach reached rows asked → IsFreshRow rows r
    → askers_in (reached r.old) ≡ 0 → AllReach reached (rows ++ r ∷ []) asked
all-skip reached rows r asked all fresh none = record {
  each = λ j lt. if-some _ _ (get_or asked j None) (λ id x. reach-skip (λ q. has_asker j (reached q)) rows r id x fresh (no-bit _ j none)) (all.each j lt);
}

-- one row more, whose old identifier's askers come to its successor
pub all-join : (reached more : List ℕ → Option ℕ) (rows : List Row) (r : Row) (asked : List (Option (List ℕ))) (successor : List ℕ) (coming : ℕ)
    → AllReach reached rows asked → IsFreshRow rows r → r.new ≡ Some successor → coming ≡ askers_in (reached r.old)
    → ((q : List ℕ) → (j : ℕ) → has_asker j (more q) ≡ cond (same_id successor q) (has_asker j (reached q) || (bit_at coming j == 1)) (has_asker j (reached q)))
    → AllReach more (rows ++ r ∷ []) asked
all-join reached more rows r asked successor coming all fresh some is new = record {
  each = λ j lt. if-some _ _ (get_or asked j None) (λ id x. reach-join (λ q. has_asker j (reached q)) (λ q. has_asker j (more q)) rows r id successor x fresh some
      (λ q. new q j ∙ ap (λ (n : ℕ). cond (same_id successor q) (has_asker j (reached q) || (bit_at n j == 1)) (has_asker j (reached q))) is)) (all.each j lt);
}

-- ---- the start
below-from : (a b : ℕ) → nat_lt a b ≡ true → a < b
below-from a b e = grind (arith, nat_tests)

above-from : (a b : ℕ) → nat_lt a b ≡ false → b ≤ a
above-from a b e = grind (arith, nat_tests)

below : (a b : ℕ) → a < b → nat_lt a b ≡ true
below a b lt = grind (arith, nat_tests)

not-below : (a b : ℕ) → b ≤ a → nat_lt a b ≡ false
not-below a b le = grind (arith, nat_tests)

-- an identifier is asked at one of the first places
abbrev pub is_asked : List (Option (List ℕ)) → ℕ → List ℕ → ℕ → Bool
is_asked asked i q j = nat_lt j i && is_this q (get_or asked j None)

-- at first nobody is asked
pub none-asked : (reached : List ℕ → Option ℕ) (asked : List (Option (List ℕ))) → ((q : List ℕ) → reached q ≡ None) → (q : List ℕ) (j : ℕ) → has_asker j (reached q) ≡ is_asked asked 0 q j
none-asked reached asked none q j = no-bit _ j (ap askers_in (none q)) ∙ sym (ap (λ (b : Bool). b && is_this q (get_or asked j None)) (not-below j 0 (omega arith)))

any-default : (os : List (Option (List ℕ))) (i : ℕ) (d e : Option (List ℕ)) → i < length os → get_or os i d ≡ get_or os i e
any-default [] i d e lt = absurd (omega (arith, lt))
any-default (o ∷ os) zero d e lt = refl
any-default (o ∷ os) (suc i) d e lt = any-default os i d e (omega (arith, lt))

-- one place further, where nobody is asked
pub asked-none : (reached : List ℕ → Option ℕ) (asked : List (Option (List ℕ))) (i : ℕ) → i < length asked → (o : Option (List ℕ)) → o ≡ get_or asked i o → o ≡ None
    → ((q : List ℕ) (j : ℕ) → has_asker j (reached q) ≡ is_asked asked i q j) → (q : List ℕ) (j : ℕ) → has_asker j (reached q) ≡ is_asked asked (i + 1) q j
asked-none reached asked i within o at none so q j = so q j ∙ by (nat_lt j i) refl (nat_lt j (i + 1)) refl where
  by : (b : Bool) → b ≡ nat_lt j i → (c : Bool) → c ≡ nat_lt j (i + 1) → (b && is_this q (get_or asked j None)) ≡ (c && is_this q (get_or asked j None))
  by true e true f = refl
  by false e false f = refl
  by true e false f = absurd (let x = below-from j i (sym e) in let y = above-from j (i + 1) (sym f) in omega (arith, x, y))
  by false e true f =
      let same : j ≡ i = (let x = above-from j i (sym e) in let y = below-from j (i + 1) (sym f) in omega (arith, x, y)) in
      sym (ap (λ (k : ℕ). is_this q (get_or asked k None)) same ∙ ap (is_this q) (any-default asked i None o within ∙ sym at ∙ none))

-- one place further, where an identifier is asked
pub asked-some : (old new : List ℕ → Option ℕ) (asked : List (Option (List ℕ))) (i : ℕ) (id : List ℕ) (coming : ℕ) → i < 128 → i < length asked
    → (o : Option (List ℕ)) → o ≡ get_or asked i o → o ≡ Some id → coming ≡ 1 * 2 ^ i % 2 ^ 128
    → ((q : List ℕ) (j : ℕ) → has_asker j (new q) ≡ cond (same_id id q) (has_asker j (old q) || (bit_at coming j == 1)) (has_asker j (old q)))
    → ((q : List ℕ) (j : ℕ) → has_asker j (old q) ≡ is_asked asked i q j) → (q : List ℕ) (j : ℕ) → has_asker j (new q) ≡ is_asked asked (i + 1) q j
asked-some old new asked i id coming lt within o at some is adds so q j =
    adds q j ∙ ap (λ (n : ℕ). cond (same_id id q) (has_asker j (old q) || (bit_at n j == 1)) (has_asker j (old q))) is
    ∙ ap (λ (b : Bool). cond (same_id id q) (b || (bit_at (1 * 2 ^ i % 2 ^ 128) j == 1)) b) (so q j)
    ∙ by (nat_lt j i) refl (nat_lt j (i + 1)) refl where
      apart : (b s t : Bool) → t ≡ false → cond s (b || t) b ≡ b
      apart true true t e = refl
      apart false true t e = e
      apart b false t e = refl

      here : (s t : Bool) → t ≡ true → cond s (false || t) false ≡ s
      here true t e = e
      here false t e = refl

      by : (b : Bool) → b ≡ nat_lt j i → (c : Bool) → c ≡ nat_lt j (i + 1)
          → cond (same_id id q) ((b && is_this q (get_or asked j None)) || (bit_at (1 * 2 ^ i % 2 ^ 128) j == 1)) (b && is_this q (get_or asked j None))
          ≡ (c && is_this q (get_or asked j None))
      by true e true f = apart (is_this q (get_or asked j None)) (same_id id q) _ (one-other i j lt (λ at. let x = below-from j i (sym e) in omega (arith, x, at)))
      by false e false f = apart false (same_id id q) _ (one-other i j lt (λ at. let y = above-from j (i + 1) (sym f) in omega (arith, y, at)))
      by true e false f = absurd (let x = below-from j i (sym e) in let y = above-from j (i + 1) (sym f) in omega (arith, x, y))
      by false e true f =
          let same : j ≡ i = (let x = above-from j i (sym e) in let y = below-from j (i + 1) (sym f) in omega (arith, x, y)) in
          here (same_id id q) _ (ap (λ (k : ℕ). bit_at (1 * 2 ^ i % 2 ^ 128) k == 1) same ∙ one-same i lt)
          ∙ same-sym id q ∙ sym (ap (λ (k : ℕ). is_this q (get_or asked k None)) same ∙ ap (is_this q) (any-default asked i None o within ∙ sym at ∙ some))

-- all are asked
pub all-asked : (reached : List ℕ → Option ℕ) (asked : List (Option (List ℕ))) (i : ℕ) → length asked ≤ i
    → ((q : List ℕ) (j : ℕ) → has_asker j (reached q) ≡ is_asked asked i q j) → AllReach reached [] asked
all-asked reached asked i e so = record { each = λ j lt. at j lt (get_or asked j None) refl } where
  at : (j : ℕ) → j < length asked → (o : Option (List ℕ)) → o ≡ get_or asked j None → IfSome o (Reaches (λ q. has_asker j (reached q)) [])
  at j lt None is = search rules
  at j lt (Some id) is = reach-start (λ q. has_asker j (reached q)) id
      (λ q. so q j ∙ ap (λ (b : Bool). b && is_this q (get_or asked j None)) (below j i (omega (arith, lt, e)))
      ∙ ap (λ (o : Option (List ℕ)). is_this q o) (sym is))

-- ---- those found
-- what the asker at a place reaches of these
pub reached-of : (reached : List ℕ → Option ℕ) (j : ℕ) (ids : List (List ℕ)) → reached_by j (with_askers reached ids) ≡ filter (λ q. has_asker j (reached q)) ids
reached-of reached j [] = refl
reached-of reached j (x ∷ xs) = by (reached x) (reached-of reached j xs) where
  by : (o : Option ℕ) → reached_by j (with_askers reached xs) ≡ filter (λ q. has_asker j (reached q)) xs
      → reached_by j (with_asked o x (with_askers reached xs)) ≡ cond (has_asker j o) (x ∷ filter (λ q. has_asker j (reached q)) xs) (filter (λ q. has_asker j (reached q)) xs)
  by None e = e ∙ sym (ap (λ (b : Bool). cond b (x ∷ filter (λ q. has_asker j (reached q)) xs) (filter (λ q. has_asker j (reached q)) xs)) (no-bit 0 j refl))
  by (Some askers) e = ap (λ (l : List (List ℕ)). cond (bit_at askers j == 1) (x ∷ l) l) e

-- the live ones of those reached
pub traced : (h : List Entry) (reached : List ℕ → Option ℕ) (asked : List (Option (List ℕ))) (ids : List (List ℕ)) (found : List (List ℕ × ℕ))
    → AllReach reached (all_rows h) asked → ids ≡ last_live h → IsAscending ids → found ≡ with_askers reached ids → AreTraced h asked found
traced h reached asked ids found all e up f j lt =
    let list : reached_by j found ≡ filter (λ q. has_asker j (reached q)) ids = ap (reached_by j) f ∙ reached-of reached j ids in
    if-some _ _ (get_or asked j None) (λ id x. record {
      members = live-reached h id (λ q. has_asker j (reached q)) ids (reached_by j found) x e list;
      ascend = subst IsAscending (sym list) (ascending-filter (λ q. has_asker j (reached q)) ids up);
    }) (all.each j lt)

-- one of those found further
reached-push : (j : ℕ) (ps : List (List ℕ × ℕ)) (p : List ℕ × ℕ) → reached_by j (ps ++ p ∷ []) ≡ reached_by j ps ++ cond (bit_at p.1 j == 1) (p.0 ∷ []) []
reached-push j [] p = refl
reached-push j (x ∷ xs) p =
    ap (λ (l : List (List ℕ)). cond (bit_at x.1 j == 1) (x.0 ∷ l) l) (reached-push j xs p) ∙ out (bit_at x.1 j == 1) (reached_by j xs) (cond (bit_at p.1 j == 1) (p.0 ∷ []) []) where
      out : (b : Bool) (l r : List (List ℕ)) → cond b (x.0 ∷ (l ++ r)) (l ++ r) ≡ cond b (x.0 ∷ l) l ++ r
      out true l r = refl
      out false l r = refl

-- one further, which the asker reaches: it is added
pub reached-then : (j : ℕ) (ps : List (List ℕ × ℕ)) (i : ℕ) (p : List ℕ × ℕ) (copy : List ℕ)
    (found new : List (List ℕ)) → i < length ps → p ≡ get_or ps i p → copy ≡ p.0 → bit_and (p.1 / 2 ^ j) 1 ≡ 1
    → found ≡ reached_by j (take i ps) → new ≡ found ++ copy ∷ [] → new ≡ reached_by j (take (i + 1) ps)
reached-then j ps i p copy found new lt is c t f n =
    n ∙ ap (λ (l : List (List ℕ)). l ++ copy ∷ []) f ∙ ap (λ (x : List ℕ). reached_by j (take i ps) ++ x ∷ []) c
    ∙ ap (λ (m : ℕ). reached_by j (take i ps) ++ cond (m == 1) (p.0 ∷ []) []) (sym (sym (shr_and_one p.1 j) ∙ t))
    ∙ sym (reached-push j (take i ps) p) ∙ ap (λ (l : List (List ℕ × ℕ)). reached_by j l) (take-at ps i p lt is)

-- one further, which the asker does not reach: none is added
pub reached-else : (j : ℕ) (ps : List (List ℕ × ℕ)) (i : ℕ) (p : List ℕ × ℕ) (found : List (List ℕ)) → i < length ps
    → p ≡ get_or ps i p → bit_and (p.1 / 2 ^ j) 1 ≢ 1 → found ≡ reached_by j (take i ps) → found ≡ reached_by j (take (i + 1) ps)
reached-else j ps i p found lt is t f =
    f ∙ sym (append-nil (reached_by j (take i ps))) ∙ ap (λ (b : Bool). reached_by j (take i ps) ++ cond b (p.0 ∷ []) [])
    (sym (by (bit_at p.1 j) (bit_at-lt p.1 j) (λ one. t (shr_and_one p.1 j ∙ one))))
    ∙ sym (reached-push j (take i ps) p) ∙ ap (λ (l : List (List ℕ × ℕ)). reached_by j l) (take-at ps i p lt is) where
      by : (n : ℕ) → n < 2 → n ≢ 1 → (n == 1) ≡ false
      by zero few ne = refl
      by (suc zero) few ne = absurd (ne refl)
      by (suc (suc n)) few ne = absurd (omega (arith, few))
