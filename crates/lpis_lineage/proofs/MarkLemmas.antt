-- Marks, row by row.
use Rattle.std.proofs.Common.{◌≡◌, ◌∙◌, ◌&&◌, ◌++◌, ◌∷◌, [], refl, sym, ap, arith, ℕ, List, Bool, true, false, not, cond, Option, None, Some, filter}
use Rattle.std.specs.List.{list_all}
use Rattle.lpis_lineage.proofs.Common.{list_any, Row, has_id, same_id, is_row_of, names_successor}
use Rattle.lpis_lineage.specs.declared.kind.Kind.{Kind}
use Rattle.lpis_lineage.specs.declared.marks.Marks.{Marks}
use Rattle.lpis_lineage.specs.ExactGroups.{is_exact_merge, is_exact_split, is_merged, is_split}
use Rattle.lpis_lineage.specs.private.Marks.{AreMarks}
use Rattle.lpis_lineage.proofs.IdentifierLemmas.{same-sym}
use Rattle.lpis_lineage.proofs.SeenLemmas.{any-push}

-- ---- what passes of those that a test lets through
all-none : {A : Type 0} (p n : A → Bool) (xs : List A) → list_all p (filter n xs) ≡ not (list_any (λ x. n x && not (p x)) xs)
all-none p n [] = refl
all-none p n (x ∷ xs) = grind (arith, all-none p n xs)

two-none : {A : Type 0} (p q n : A → Bool) (xs : List A) → (list_all p (filter n xs) && list_all q (filter n xs)) ≡ not (list_any (λ x. n x && not (p x && q x)) xs)
two-none p q n [] = refl
two-none p q n (x ∷ xs) = grind (arith, two-none p q n xs)

-- a split is an exact one where no row of its identifier is unmarked, and only there
pub exact-split : (kind_of : List ℕ → Option Kind) (rows : List Row) (id : List ℕ) (b : Bool) → is_split (kind_of id) ≡ true
    → b ≡ list_any (λ (r : Row). is_row_of id r && not r.exact) rows → not b ≡ is_exact_split kind_of rows id
exact-split kind_of rows id b k e = by (is_split (kind_of id)) k (ap not e ∙ sym (all-none (λ (r : Row). r.exact) (is_row_of id) rows))
  where
    by : (s : Bool) → s ≡ true → not b ≡ list_all (λ (r : Row). r.exact) (filter (is_row_of id) rows) → not b ≡ (s && list_all (λ (r : Row). r.exact) (filter (is_row_of id) rows))
    by true e h = h
    by false e h = cc e

-- a named successor is of an exact merge just where each row that names it is marked and merges its old identifier
pub exact-merge : (kind_of : List ℕ → Option Kind) (rows : List Row) (s : List ℕ) (b : Bool) → list_any (names_successor s) rows ≡ true
    → b ≡ list_any (λ (r : Row). names_successor s r && not (is_merged (kind_of r.old) && r.exact)) rows → not b ≡ is_exact_merge kind_of rows s
exact-merge kind_of rows s b there e = by (list_any (names_successor s) rows) there (ap not e ∙ sym (two-none (λ (r : Row). is_merged (kind_of r.old)) (λ (r : Row). r.exact) (names_successor s) rows))
  where
    M : Bool
    M = list_all (λ (r : Row). is_merged (kind_of r.old)) (filter (names_successor s) rows)

    E : Bool
    E = list_all (λ (r : Row). r.exact) (filter (names_successor s) rows)

    by : (t : Bool) → t ≡ true → not b ≡ (list_all (λ (r : Row). is_merged (kind_of r.old)) (filter (names_successor s) rows) && list_all (λ (r : Row). r.exact) (filter (names_successor s) rows))
        → not b ≡ ((t && list_all (λ (r : Row). is_merged (kind_of r.old)) (filter (names_successor s) rows)) && list_all (λ (r : Row). r.exact) (filter (names_successor s) rows))
    by true e h = h
    by false e h = cc e

-- ---- one row more
of-more : (q : List ℕ) (before : List Row) (r : Row) (was is : Bool) → was ≡ list_any (λ (x : Row). is_row_of q x && not x.exact) before
    → is ≡ cond (not r.exact && same_id r.old q) true was → is ≡ list_any (λ (x : Row). is_row_of q x && not x.exact) (before ++ r ∷ [])
of-more q before r was is e f = grind (arith, any-push (λ (x : Row). is_row_of q x && not x.exact) before r, same-sym q r.old)

-- one row more, an ending: its old identifier is added to the unsplit ones where the row is not marked
pub marks-none : (kind_of : List ℕ → Option Kind) (m n : Marks) (before : List Row) (r : Row) → AreMarks kind_of m before → r.new ≡ None
    → ((q : List ℕ) → has_id n.unsplit q ≡ cond (not r.exact && same_id r.old q) true (has_id m.unsplit q)) → n.unmerged ≡ m.unmerged
    → AreMarks kind_of n (before ++ r ∷ [])
marks-none kind_of m n before r are none u e = record {
  unsplit_are = λ q. of-more q before r _ _ (are.unsplit_are q) (u q);
  unmerged_are = λ s. ap (λ (l : List (List ℕ)). has_id l s) e ∙ are.unmerged_are s ∙ by s;
} where
  by : (s : List ℕ) → list_any (λ (x : Row). names_successor s x && not (is_merged (kind_of x.old) && x.exact)) before ≡ list_any (λ (x : Row). names_successor s x && not (is_merged (kind_of x.old)
      && x.exact)) (before ++ r ∷ [])
  by s = rw (any-push (λ (x : Row). names_successor s x && not (is_merged (kind_of x.old) && x.exact)) before r, none) (grind arith)

-- one row more with a successor, which is added to the unmerged ones unless the row is marked and merges
pub marks-some : (kind_of : List ℕ → Option Kind) (m n : Marks) (before : List Row) (r : Row) (successor : List ℕ) → AreMarks kind_of m before → r.new ≡ Some successor
    → ((q : List ℕ) → has_id n.unsplit q ≡ cond (not r.exact && same_id r.old q) true (has_id m.unsplit q))
    → ((s : List ℕ) → has_id n.unmerged s ≡ cond (not (is_merged (kind_of r.old) && r.exact) && same_id successor s) true (has_id m.unmerged s))
    → AreMarks kind_of n (before ++ r ∷ [])
marks-some kind_of m n before r successor are some u v = record {
  unsplit_are = λ q. of-more q before r _ _ (are.unsplit_are q) (u q);
  unmerged_are = λ s. by s (has_id m.unmerged s) (has_id n.unmerged s) (are.unmerged_are s) (v s);
} where
  by : (s : List ℕ) (was is : Bool) → was ≡ list_any (λ (x : Row). names_successor s x && not (is_merged (kind_of x.old) && x.exact)) before
      → is ≡ cond (not (is_merged (kind_of r.old) && r.exact) && same_id successor s) true was
      → is ≡ list_any (λ (x : Row). names_successor s x && not (is_merged (kind_of x.old) && x.exact)) (before ++ r ∷ [])
  by s was is e f = rw (any-push (λ (x : Row). names_successor s x && not (is_merged (kind_of x.old) && x.exact)) before r, some) (grind (arith, same-sym s successor))
