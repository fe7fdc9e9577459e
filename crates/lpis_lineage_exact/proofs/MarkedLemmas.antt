-- Rows without marks have no exact groups.
use Rattle.std.proofs.Common.{◌≡◌, ◌∙◌, ◌&&◌, ◌||◌, ℕ, List, [], ◌∷◌, Bool, true, false, cond, Option, Some, None, filter, length, nat_lt, refl, sym, ap, subst, arith}
use Rattle.std.specs.Cmp.Lexicographic.{nat_list_cmp_total}
use Rattle.std.specs.List.{list_all, list_any}
use Rattle.std.proofs.lemmas.List.Elements.{All-nil}
use Rattle.std.proofs.lemmas.Map.Keys.{sorted_from_all_adjacent}
use Rattle.lpis_lineage.specs.Changes.{Changes, IsChange, kind_at}
use Rattle.lpis_lineage.specs.ExactGroups.{AreExactGroups, is_exact_merge, is_exact_split, is_merged, is_other, is_split}
use Rattle.lpis_lineage.specs.Kinds.{by_counts, named_successors, kind, predecessors, successors}
use Rattle.lpis_lineage.specs.Lineage.{is_ended, is_row_of, names_successor}
use Rattle.lpis_lineage.specs.Order.{IsAscending}
use Rattle.lpis_lineage.specs.declared.exact.Group.{Group}
use Rattle.lpis_lineage.specs.declared.kind.Kind.{Kind}
use Rattle.lpis_lineage.specs.declared.kind.Kind.TheVariants.{Kept, Ended}
use Rattle.lpis_lineage.specs.declared.row.Row.{Row}
use Rattle.lpis_tables.specs.Ids.{has_id}

abbrev is_marked : Row → Bool
is_marked r = r.exact

first-false : (a b : Bool) → (a || b) ≡ false → a ≡ false
first-false true b e = e
first-false false b e = refl

second-false : (a b : Bool) → (a || b) ≡ false → b ≡ false
second-false true b e = cc e
second-false false b e = e

and-not : (a b : Bool) → b ≡ false → (a && b) ≡ false
and-not true b e = e
and-not false b e = refl

-- of rows that pass a test, some one is unmarked
unmarked : (test : Row → Bool) (rows : List Row) → list_any is_marked rows ≡ false → list_any test rows ≡ true → list_all is_marked (filter test rows) ≡ false
unmarked test [] n e = cc e
unmarked test (r ∷ rs) n e = by (test r) e (unmarked test rs (second-false r.exact (list_any is_marked rs) n))
  where
    by : (b : Bool) → (b || list_any test rs) ≡ true → (list_any test rs ≡ true → list_all is_marked (filter test rs) ≡ false)
        → list_all is_marked (cond b (r ∷ filter test rs) (filter test rs)) ≡ false
    by true e rec = ap (λ (m : Bool). m && list_all is_marked (filter test rs)) (first-false r.exact (list_any is_marked rs) n)
    by false e rec = rec e

none-pass : (test : Row → Bool) (rows : List Row) → list_any test rows ≡ false → filter test rows ≡ []
none-pass test [] e = refl
none-pass test (r ∷ rs) e = by (test r) e (none-pass test rs (second-false (test r) (list_any test rs) e))
  where
    by : (b : Bool) → (b || list_any test rs) ≡ false → filter test rs ≡ [] → cond b (r ∷ filter test rs) (filter test rs) ≡ []
    by true e rec = cc e
    by false e rec = rec

-- what has no successor is not split
abbrev kind_by : (was live ends : Bool) → (List ℕ → Bool) → List (List ℕ) → Option Kind
kind_by was live ends several ss = cond was (Some (cond live Kept (cond ends Ended (by_counts (nat_lt 1 (length ss)) (list_any several ss))))) None

not-split : (was live ends : Bool) (several : List ℕ → Bool) → is_split (kind_by was live ends several []) ≡ false
not-split false live ends several = refl
not-split true true ends several = refl
not-split true false true several = refl
not-split true false false several = refl

no-split : (last live : List (List ℕ)) (rows : List Row) → list_any is_marked rows ≡ false → (id : List ℕ) → is_exact_split (kind last live rows) rows id ≡ false
no-split last live rows n id = by (list_any (is_row_of id) rows) refl
  where
    by : (b : Bool) → list_any (is_row_of id) rows ≡ b → is_exact_split (kind last live rows) rows id ≡ false
    by true e = and-not (is_split (kind last live rows id)) (list_all is_marked (filter (is_row_of id) rows)) (unmarked (is_row_of id) rows n e)
    by false e =
        let several : List ℕ → Bool = λ s. nat_lt 1 (predecessors last live rows s) in
        let none : successors rows id ≡ [] = ap named_successors (none-pass (is_row_of id) rows e) in
        let split : is_split (kind last live rows id) ≡ false =
        ap (λ (ss : List (List ℕ)). is_split (kind_by (has_id last id) (has_id live id) (is_ended rows id) several ss)) none
        ∙ not-split (has_id last id) (has_id live id) (is_ended rows id) several in
        ap (λ (b : Bool). b && list_all is_marked (filter (is_row_of id) rows)) split

no-merge : (kind_of : List ℕ → Option Kind) (rows : List Row) → list_any is_marked rows ≡ false → (s : List ℕ) → is_exact_merge kind_of rows s ≡ false
no-merge kind_of rows n s = by (list_any (names_successor s) rows) refl
  where
    merged : Bool
    merged = list_all (λ (row : Row). is_merged (kind_of row.old)) (filter (names_successor s) rows)

    by : (b : Bool) → list_any (names_successor s) rows ≡ b → is_exact_merge kind_of rows s ≡ false
    by true e = and-not (list_any (names_successor s) rows && merged) (list_all is_marked (filter (names_successor s) rows)) (unmarked (names_successor s) rows n e)
    by false e = ap (λ (b : Bool). (b && merged) && list_all is_marked (filter (names_successor s) rows)) e

none-ascend : IsAscending []
none-ascend = sorted_from_all_adjacent nat_list_cmp_total [] [] (λ k lt. absurd (omega (arith, lt)))

-- a change without a marked row has no exact groups
pub no-groups : (last live : List (List ℕ)) (c : Changes) → IsChange last live c.rows c → list_any (λ (r : Row). r.exact) c.rows ≡ false → AreExactGroups (kind_at c) c.rows []
no-groups last live c change n = subst (λ (k : List ℕ → Option Kind). AreExactGroups k c.rows []) (λ i id. sym (change.kinds_are id) i) (record {
  splits = [];
  merges = [];
  listed = refl;
  splits_ascend = none-ascend;
  merges_ascend = none-ascend;
  splits_are = λ id. sym (no-split last live c.rows n id);
  merges_are = λ s. sym (no-merge (kind last live c.rows) c.rows n s);
  others_ascend = All-nil (λ (g : Group). IsAscending g.others);
  others = All-nil (λ (g : Group). (q : List ℕ) → has_id g.others q ≡ is_other (kind last live c.rows) c.rows g q);
})
