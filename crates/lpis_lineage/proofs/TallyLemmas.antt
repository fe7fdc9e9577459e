-- A list, one identifier longer.
use Rattle.std.proofs.Common.{◌≡◌, ◌∙◌, ◌<◌, ◌+◌, refl, sym, ap, subst, arith, ℕ, List, [], ◌∷◌, ◌++◌, length, Bool, true, false, Option, None, Some, cond, take, get_or, ◌||◌, nat_lt}
use Rattle.lpis_lineage.proofs.Common.{nat_tests, Row, has_id, same_id, id_times, named_successors, IsTally}
use Rattle.std.proofs.Math.Bool.{or-false}
use Rattle.lpis_lineage.specs.declared.tally.Tally.{Tally}
use Rattle.lpis_lineage.specs.Kinds.{with_some}
use Rattle.lpis_lineage.proofs.IdentifierLemmas.{same-exact, same-sym}
use Rattle.lpis_lineage.proofs.RowCountLemmas.{filter-append, filter-none, filter-some}
use Rattle.lpis_lineage.proofs.SeenLemmas.{any-push, or-cond}
use Rattle.lpis_lineage.proofs.TellingLemmas.{take-at}

-- one more is a second one where it is the same and was there
twice-more : (ids : List (List ℕ)) (id q : List ℕ) → nat_lt 1 (id_times (ids ++ id ∷ []) q) ≡ cond (same_id q id) (nat_lt 0 (id_times ids q)) (nat_lt 1 (id_times ids q))
twice-more ids id q = ap (λ (n : ℕ). nat_lt 1 n) (filter-append (same_id q) ids (id ∷ [])) ∙ by (same_id q id) (id_times ids q) where
  by : (b : Bool) (n : ℕ) → nat_lt 1 (n + length (cond b (id ∷ []) [])) ≡ cond b (nat_lt 0 n) (nat_lt 1 n)
  by true n = grind (arith, nat_tests)
  by false n = grind (arith, nat_tests)

some-times : (ids : List (List ℕ)) (q : List ℕ) → nat_lt 0 (id_times ids q) ≡ has_id ids q
some-times ids q = by (has_id ids q) refl where
  by : (b : Bool) → b ≡ has_id ids q → nat_lt 0 (id_times ids q) ≡ has_id ids q
  by true e = let n = filter-some (same_id q) ids (sym e) in (let t : nat_lt 0 (id_times ids q) ≡ true = grind (arith, nat_tests) in t ∙ e)
  by false e = let n = filter-none (same_id q) ids (sym e) in (let t : nat_lt 0 (id_times ids q) ≡ false = grind (arith, nat_tests) in t ∙ e)

same-both : (id q : List ℕ) (ids : List (List ℕ)) (b : Bool) → has_id ids id ≡ b → same_id q id ≡ true → has_id ids q ≡ b
same-both id q ids b e s = let P : List ℕ → Type 0 = λ z. has_id ids z ≡ b in subst P (sym (same-exact q id s)) e

-- one identifier more that the list has already: it is one of those that it has more than once
pub tally-again : (s t : Tally) (ids : List (List ℕ)) (id : List ℕ) → IsTally s ids → has_id s.once id ≡ true
    → t.once ≡ s.once → ((q : List ℕ) → has_id t.twice q ≡ cond (same_id id q) true (has_id s.twice q))
    → IsTally t (ids ++ id ∷ [])
tally-again s t ids id tally there once new = record {
  once_are = λ q. ap (λ (l : List (List ℕ)). has_id l q) once ∙ tally.once_are q ∙ by-once q (same_id q id) refl ∙ sym (any-push (same_id q) ids id);
  twice_are = λ q. new q ∙ ap (λ (b : Bool). cond b true (has_id s.twice q)) (same-sym id q)
      ∙ ap (λ (b : Bool). cond (same_id q id) true b) (tally.twice_are q) ∙ by-twice q (same_id q id) refl
      ∙ sym (twice-more ids id q);
} where
  by-once : (q : List ℕ) (b : Bool) → b ≡ same_id q id → has_id ids q ≡ (has_id ids q || b)
  by-once q true e = let h = same-both id q ids true (sym (tally.once_are id) ∙ there) (sym e) in grind arith
  by-once q false e = sym (or-false (has_id ids q))

  by-twice : (q : List ℕ) (b : Bool) → b ≡ same_id q id → cond b true (nat_lt 1 (id_times ids q)) ≡ cond b (nat_lt 0 (id_times ids q)) (nat_lt 1 (id_times ids q))
  by-twice q true e = sym (some-times ids q ∙ same-both id q ids true (sym (tally.once_are id) ∙ there) (sym e))
  by-twice q false e = refl

-- one identifier more that the list lacked: it is one of those that it has
pub tally-new : (s t : Tally) (ids : List (List ℕ)) (id : List ℕ) → IsTally s ids → has_id s.once id ≡ false
    → t.twice ≡ s.twice → ((q : List ℕ) → has_id t.once q ≡ cond (same_id id q) true (has_id s.once q))
    → IsTally t (ids ++ id ∷ [])
tally-new s t ids id tally absent twice new = record {
  once_are = λ q. new q ∙ or-cond (same_id id q) _ ∙ ap (λ (b : Bool). b || same_id id q) (tally.once_are q) ∙ ap (λ (b : Bool). has_id ids q || b) (same-sym id q) ∙ sym (any-push (same_id q) ids id);
  twice_are = λ q. ap (λ (l : List (List ℕ)). has_id l q) twice ∙ tally.twice_are q ∙ by-twice q (same_id q id) refl ∙ sym (twice-more ids id q);
} where
  by-twice : (q : List ℕ) (b : Bool) → b ≡ same_id q id → nat_lt 1 (id_times ids q) ≡ cond b (nat_lt 0 (id_times ids q)) (nat_lt 1 (id_times ids q))
  by-twice q true e = let z = some-times ids q ∙ same-both id q ids false (sym (tally.once_are id) ∙ absent) (sym e) in grind (arith, nat_tests)
  by-twice q false e = refl

-- the successors of one row more
pub named_successors-some : (rows : List Row) (i : ℕ) (r : Row) (s : List ℕ) → i < length rows → r ≡ get_or rows i r → r.new ≡ Some s
    → named_successors (take i rows) ++ s ∷ [] ≡ named_successors (take (i + 1) rows)
named_successors-some rows i r s lt is some = sym (push (take i rows)) ∙ ap named_successors (take-at rows i r lt is) where
  push : (rs : List Row) → named_successors (rs ++ r ∷ []) ≡ named_successors rs ++ s ∷ []
  push [] = ap (λ (o : Option (List ℕ)). with_some o []) some
  push (x ∷ rs) = ap (λ (l : List (List ℕ)). with_some x.new l) (push rs) ∙ out x.new (named_successors rs) where
    out : (o : Option (List ℕ)) (l : List (List ℕ)) → with_some o (l ++ s ∷ []) ≡ with_some o l ++ s ∷ []
    out None l = refl
    out (Some y) l = refl

-- a row without a successor adds none to those that the rows name
pub named_successors-none : (rows : List Row) (i : ℕ) (r : Row) → i < length rows → r ≡ get_or rows i r → r.new ≡ None → named_successors (take i rows) ≡ named_successors (take (i + 1) rows)
named_successors-none rows i r lt is none = sym (push (take i rows)) ∙ ap named_successors (take-at rows i r lt is) where
  push : (rs : List Row) → named_successors (rs ++ r ∷ []) ≡ named_successors rs
  push [] = ap (λ (o : Option (List ℕ)). with_some o []) none
  push (x ∷ rs) = ap (λ (l : List (List ℕ)). with_some x.new l) (push rs)
