-- The kinds, from the two passes over the rows.
use Rattle.std.proofs.Common.{◌≡◌, ◌<◌, ◌+◌, refl, arith, ℕ, List, [], ◌∷◌, ◌++◌, length, Bool, true, false, None, Some, cond, get_or, ◌&&◌, ◌||◌, not}
use Rattle.std.proofs.Common.{is_some, nat_lt}
use Rattle.lpis_lineage.proofs.Common.{nat_tests, list_any, Row, has_id, same_id, is_row_of, is_ended, names_successor, is_this, id_times, named_successors, kind}
use Rattle.lpis_lineage.proofs.Common.{IsTally, AreFates}
use Rattle.std.proofs.lemmas.List.Folds.{list_any_at}
use Rattle.std.proofs.lemmas.List.{append-nil}
use Rattle.lpis_lineage.specs.declared.fates.Fates.{Fates}
use Rattle.lpis_lineage.specs.Kinds.{successors, by_counts}
use Rattle.lpis_lineage.specs.declared.kind.Kind.{Kind}
use Rattle.lpis_lineage.specs.private.Fates.{olds, on_some, is_shared}
use Rattle.lpis_lineage.proofs.RowCountLemmas.{filter-some}
use Rattle.lpis_lineage.proofs.SeenLemmas.{row-more}

-- an identifier has as many successors as rows with one
successors-count : (rows : List Row) (id : List ℕ) → length (successors rows id) ≡ id_times (olds rows) id
successors-count [] id = refl
successors-count (r ∷ rs) id = grind (arith, successors-count rs id)

-- some successor passes where some row of the identifier has one that passes
pub successors-any : (p : List ℕ → Bool) (rows : List Row) (id : List ℕ) → list_any p (successors rows id) ≡ list_any (λ r. is_row_of id r && on_some p r.new) rows
successors-any p [] id = refl
successors-any p (r ∷ rs) id = grind (arith, successors-any p rs id)

-- a named successor has several predecessors where rows name it twice, or it is kept
pub shared-test : (ids : List (List ℕ)) (s : List ℕ) (kept : Bool) → has_id ids s ≡ true
    → (nat_lt 1 (id_times ids s) || kept) ≡ nat_lt 1 (id_times ids s + cond kept 1 0)
shared-test ids s kept there = grind (arith, nat_tests, filter-some (same_id s) ids there)

olds-push : (rs : List Row) (r : Row) → olds (rs ++ r ∷ []) ≡ olds rs ++ cond (is_some r.new) (r.old ∷ []) []
olds-push [] r = refl
olds-push (x ∷ rs) r = grind (arith, olds-push rs r)

-- one row more: an ending
pub fates-end : (last live : List (List ℕ)) (all before : List Row) (f g : Fates) (r : Row) → AreFates last live all f before → r.new ≡ None
    → ((q : List ℕ) → has_id g.ended q ≡ cond (same_id r.old q) true (has_id f.ended q)) → g.olds ≡ f.olds → g.shared ≡ f.shared
    → AreFates last live all g (before ++ r ∷ [])
fates-end last live all before f g r are none e o s = record {
  ended_are = λ q. row-more (λ o. not (is_some o)) None q before r _ _ none (are.ended_are q) (e q);
  olds_are = rw (o, olds-push before r, none, append-nil) are.olds_are;
  shared_are = λ q. row-more (on_some (is_shared last live all)) None q before r _ _ none (are.shared_are q) (rw s);
}

-- one row more: a successor
pub fates-successor : (last live : List (List ℕ)) (all before : List Row) (f g : Fates) (r : Row) (s : List ℕ) (b : Bool) → AreFates last live all f before
    → r.new ≡ Some s
    → b ≡ is_shared last live all s → g.ended ≡ f.ended → IsTally g.olds (olds before ++ r.old ∷ [])
    → ((q : List ℕ) → has_id g.shared q ≡ cond (b && same_id r.old q) true (has_id f.shared q)) → AreFates last live all g (before ++ r ∷ [])
fates-successor last live all before f g r s b are some sh e o n = record {
  ended_are = λ q. row-more (λ o. not (is_some o)) (Some s) q before r _ _ some (are.ended_are q) (rw e);
  olds_are = rw (olds-push before r, some) o;
  shared_are = λ q. row-more (on_some (is_shared last live all)) (Some s) q before r _ _ some (are.shared_are q) (rw (← sh) (n q));
}

-- where t is false and k is true, l alone decides on "t, or both k and l"
pub last-part : (t k l x : Bool) → t ≡ false → k ≡ true → x ≡ l → x ≡ (t || (k && l))
last-part t k l x e f g = grind arith

-- the kind of a dropped identifier that is not ended, from whether successors are several, and one is shared
pub kind-counted : (last live : List (List ℕ)) (rows : List Row) (id : List ℕ) (several shared : Bool) (k : Kind) → has_id last id ≡ true
    → has_id live id ≡ false → is_ended rows id ≡ false
    → several ≡ nat_lt 1 (id_times (olds rows) id) → shared ≡ list_any (λ r. is_row_of id r && on_some (is_shared last live rows) r.new) rows
    → k ≡ by_counts several shared → Some k ≡ kind last live rows id
kind-counted last live rows id several shared k was gone unended s h c =
    rw (was, gone, unended, successors-count rows id, successors-any (is_shared last live rows) rows id, ← s, ← h, c)

named_successors-has : (rows : List Row) (s : List ℕ) → list_any (names_successor s) rows ≡ true → has_id (named_successors rows) s ≡ true
named_successors-has [] s e = cc e
named_successors-has (r ∷ rs) s e = grind (arith, named_successors-has rs s)

-- the successor of a row is among those that the rows name
pub successor-named : (rows : List Row) (i : ℕ) (r : Row) → i < length rows → r ≡ get_or rows i r → (s : List ℕ) → is_this s r.new ≡ true
    → has_id (named_successors rows) s ≡ true
successor-named rows i r lt is s e = named_successors-has rows s (list_any_at (names_successor s) rows i r lt (rw (← is) e))
