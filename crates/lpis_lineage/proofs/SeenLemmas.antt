-- What the sets of rows seen say of the next row.
use Rattle.std.proofs.Common.{◌≡◌, ◌∙◌, refl, arith, ℕ, List, [], ◌∷◌, ◌++◌, Bool, true, Option, None, Some, cond, ◌&&◌, ◌||◌, not, is_some, is_eq, nat_cmp}
use Rattle.lpis_lineage.proofs.Common.{list_any, slice_cmp, list_any-append, Row, has_id, same_id, is_row_of, is_this, same_row, clashes}
use Rattle.std.proofs.Math.Bool.{or-false}
use Rattle.lpis_lineage.proofs.Common.{IsSeen}
use Rattle.std.specs.Ordering.{ordering_then}
use Rattle.std.specs.Cmp.Lexicographic.{texts_ties}
use Rattle.lpis_lineage.specs.declared.seen.Seen.{Seen}
use Rattle.lpis_lineage.proofs.IdentifierLemmas.{same-sym}

-- where two tests agree on each element, some element passes the one exactly where some passes the other
pub any-same : {A : Type 0} (p q : A → Bool) (xs : List A) → ((x : A) → p x ≡ q x) → list_any p xs ≡ list_any q xs
any-same p q [] e = refl
any-same p q (x ∷ xs) e = cc (e x, any-same p q xs e)

-- some element passes of a list with one more at its end exactly where one before it passes, or it does
pub any-push : {A : Type 0} (p : A → Bool) (xs : List A) (x : A) → list_any p (xs ++ x ∷ []) ≡ (list_any p xs || p x)
any-push p xs x = rw (list_any-append, or-false)

-- "true where a is, else b" is "b or a"
pub or-cond : (a b : Bool) → cond a true b ≡ (b || a)
or-cond a b = grind arith

-- some row of the identifier passes: one did before, or the next one is of it and passes
pub row-more : (t : Option (List ℕ) → Bool) (new : Option (List ℕ)) (q : List ℕ) (before : List Row) (r : Row) (was is : Bool) → r.new ≡ new
    → was ≡ list_any (λ row. is_row_of q row && t row.new) before → is ≡ cond (t new && same_id r.old q) true was
    → is ≡ list_any (λ row. is_row_of q row && t row.new) (before ++ r ∷ [])
row-more t new q before r was is named e f = grind (arith, any-push (λ row. is_row_of q row && t row.new) before r, same-sym q r.old)

-- an ending stands before where the set of endings has the old identifier
pub doubled-end : (s : Seen) (before : List Row) (r : Row) → IsSeen s before → r.new ≡ None → has_id s.ended r.old ≡ list_any (same_row r) before
doubled-end s before r seen none = seen.ended_are r.old ∙ any-same _ (same_row r) before (λ q. rw none (grind arith))

-- an ending clashes with a row before exactly where the set of continued ones has its old identifier
pub clash-end-set : (s : Seen) (before : List Row) (r : Row) → IsSeen s before → r.new ≡ None → has_id s.continued r.old ≡ list_any (clashes r) before
clash-end-set s before r seen none = seen.continued_are r.old ∙ any-same _ (clashes r) before (λ q. rw none)

-- a row with a successor clashes with one before exactly where the set of endings has its old identifier
pub clash-successor-set : (s : Seen) (before : List Row) (r : Row) (successor : List ℕ) → IsSeen s before → r.new ≡ Some successor
    → has_id s.ended r.old ≡ list_any (clashes r) before
clash-successor-set s before r successor seen some = seen.ended_are r.old ∙ any-same _ (clashes r) before (λ q. rw (some, or-false))

-- the sets with one row more
pub seen-end : (s t : Seen) (before : List Row) (r : Row) → IsSeen s before → r.new ≡ None
    → ((q : List ℕ) → has_id t.ended q ≡ cond (same_id r.old q) true (has_id s.ended q)) → t.continued ≡ s.continued → t.named_successors.keys ≡ s.named_successors.keys
    → IsSeen t (before ++ r ∷ [])
seen-end s t before r seen none e c h = record {
  ended_are = λ q. row-more (λ o. not (is_some o)) None q before r _ _ none (seen.ended_are q) (e q);
  continued_are = λ q. row-more is_some None q before r _ _ none (seen.continued_are q) (rw c);
  successors_are = λ a b. row-more (is_this b) None a before r _ _ none (seen.successors_are a b) (rw h);
}

-- the sets with one row more that has a successor: its old identifier and the pair of both are added
pub seen-successor : (s t : Seen) (before : List Row) (r : Row) (successor : List ℕ) → IsSeen s before → r.new ≡ Some successor
    → t.ended ≡ s.ended → ((q : List ℕ) → has_id t.continued q ≡ cond (same_id r.old q) true (has_id s.continued q))
    → ((a b : List ℕ) → list_any (λ p. same_id a p.0 && same_id b p.1) t.named_successors.keys ≡ cond
    (same_id b successor && same_id r.old a) true (list_any (λ p. same_id a p.0 && same_id b p.1) s.named_successors.keys))
    → IsSeen t (before ++ r ∷ [])
seen-successor s t before r successor seen some e c h = record {
  ended_are = λ q. row-more (λ o. not (is_some o)) (Some successor) q before r _ _ some (seen.ended_are q) (rw e);
  continued_are = λ q. row-more is_some (Some successor) q before r _ _ some (seen.continued_are q) (c q);
  successors_are = λ a b. row-more (is_this b) (Some successor) a before r _ _ some (seen.successors_are a b) (h a b);
}

-- a pair compares equal where both parts do
pair-eq : (a b : List ℕ) (p : List ℕ × List ℕ)
    → is_eq (ordering_then (slice_cmp nat_cmp a p.0) (slice_cmp nat_cmp b p.1)) ≡ (same_id a p.0 && same_id b p.1)
pair-eq a b p = rw (texts_ties a p.0, texts_ties b p.1) (grind arith)

-- what a look-up of a pair says
has-pair : (a b : List ℕ) (keys : List (List ℕ × List ℕ))
    → list_any (λ p. is_eq (ordering_then (slice_cmp nat_cmp a p.0) (slice_cmp nat_cmp b p.1))) keys ≡ list_any (λ p. same_id a p.0 && same_id b p.1) keys
has-pair a b keys = any-same _ _ keys (pair-eq a b)

-- a pair of copies is new to the set where no row before is the same
pub doubled-successor : (s : Seen) (before : List Row) (r : Row) (successor x y : List ℕ) (new : Bool) → IsSeen s before → r.new ≡ Some successor → x ≡ r.old → y ≡ successor
    → new ≡ not (list_any (λ p. is_eq (ordering_then (slice_cmp nat_cmp x p.0) (slice_cmp nat_cmp y p.1))) s.named_successors.keys)
    → list_any (same_row r) before ≡ not new
doubled-successor s before r successor x y new seen some e f n =
    let there : list_any (λ p. same_id x p.0 && same_id y p.1) s.named_successors.keys ≡ list_any (same_row r) before =
    rw (e, f) (seen.successors_are r.old successor ∙ any-same _ (same_row r) before (λ q. rw some (grind arith))) in
    let h = has-pair x y s.named_successors.keys in grind arith

-- the set with a pair of copies more
pub one-pair : (a b x y : List ℕ) (old new : List (List ℕ × List ℕ)) → x ≡ a → y ≡ b
    → ((q : List ℕ × List ℕ)
    → list_any (λ p. is_eq (ordering_then (slice_cmp nat_cmp q.0 p.0) (slice_cmp nat_cmp q.1 p.1))) new ≡ cond
    (is_eq (ordering_then (slice_cmp nat_cmp x q.0) (slice_cmp nat_cmp y q.1))) true
    (list_any (λ p. is_eq (ordering_then (slice_cmp nat_cmp q.0 p.0) (slice_cmp nat_cmp q.1 p.1))) old))
    → (c d : List ℕ) → list_any (λ p. same_id c p.0 && same_id d p.1) new
    ≡ cond (same_id d b && same_id a c) true (list_any (λ p. same_id c p.0 && same_id d p.1) old)
one-pair a b x y old new e f u c d = rw (← e, ← f) (grind (arith, has-pair c d new, has-pair c d old, pair-eq x y (c, d), u (c, d), same-sym y d))
