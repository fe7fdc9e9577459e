-- Where the lineage has no fault, an identifier is left exactly where a row of it is marked.
use Rattle.std.proofs.Common.{◌≡◌, ◌∙◌, ◌&&◌, ◌||◌, ◌<◌, ◌+◌}
use Rattle.std.proofs.Common.{arith, refl, sym, ap, ap₂, ℕ, zero, suc, List, [], ◌∷◌, Bool, true, false, not, Option, None, Some, All, filter, length, get_or, take, cond}
use Rattle.std.specs.List.{list_all, list_any}
use Rattle.std.proofs.lemmas.List.Elements.{All-head, All-tail}
use Rattle.std.proofs.lemmas.List.Folds.{list_any_more}
use Rattle.lpis_lineage.specs.declared.kind.Kind.{Kind}
use Rattle.lpis_lineage.specs.declared.row.Row.{Row}
use Rattle.lpis_lineage.specs.ExactGroups.{is_exact_split, is_in_exact, is_into_merge, is_merge, is_outside, is_split}
use Rattle.lpis_lineage.specs.Lineage.{is_row_of, is_this, names_successor}
use Rattle.lpis_tables.specs.Ids.{same_id}
use Rattle.lpis_lineage.proofs.Shared.{or-cond, same-refl, same-sym}
use Rattle.lpis_run_publish.specs.LineageLines.{is_left_exactly}
use Rattle.lpis_run_publish.specs.private.Marked.{is_marked}

-- ---- truth values
left-false : (a b : Bool) → (a || b) ≡ false → a ≡ false
left-false true b e = e
left-false false b e = refl

right-false : (a b : Bool) → (a || b) ≡ false → b ≡ false
right-false true b e = cc e
right-false false b e = e

last-true : (a b : Bool) → (a && b) ≡ true → b ≡ true
last-true true b e = e
last-true false b e = cc e

-- a row that passes is marked
is-marked-row : (n e : Bool) → n ≡ true → (n && not e) ≡ false → e ≡ true
is-marked-row true true t h = refl
is-marked-row true false t h = cc h
is-marked-row false e t h = cc t

-- a row is marked exactly where it belongs to one or the other
marked-as : (split merge marked : Bool) → (marked && not (split || merge)) ≡ false → (split ≡ true → marked ≡ true) → (merge ≡ true → marked ≡ true)
    → (split || merge) ≡ marked
marked-as true merge marked out s m = sym (s refl)
marked-as false true marked out s m = sym (m refl)
marked-as false false true out s m = cc out
marked-as false false false out s m = refl

-- ---- rows
none-at : (p : Row → Bool) (rows : List Row) → list_any p rows ≡ false → All (λ (r : Row). p r ≡ false) rows
none-at p [] e k d lt = absurd (omega arith)
none-at p (x ∷ xs) e zero d lt = left-false (p x) (list_any p xs) e
none-at p (x ∷ xs) e (suc k) d lt = none-at p xs (right-false (p x) (list_any p xs) e) k d (omega arith)

all-none : (n : Row → Bool) (rows : List Row) → list_all (λ (r : Row). r.exact) (filter n rows) ≡ not (list_any (λ (r : Row). n r && not r.exact) rows)
all-none n [] = refl
all-none n (x ∷ xs) = grind (arith, all-none n xs)

not-true : (b : Bool) → not b ≡ true → b ≡ false
not-true true e = cc e
not-true false e = refl

-- each row that a test picks, where all that it picks are marked
picked-at : (n : Row → Bool) (rows : List Row) → list_all (λ (r : Row). r.exact) (filter n rows) ≡ true → All (λ (r : Row). n r ≡ true → r.exact ≡ true) rows
picked-at n rows all k d lt =
    let r = get_or rows k d in
    λ is. is-marked-row (n r) r.exact is
    (none-at (λ (x : Row). n x && not x.exact) rows (not-true _ (sym (all-none n rows) ∙ all)) k d lt)

of-itself : (r : Row) (s : List ℕ) → r.new ≡ Some s → names_successor s r ≡ true
of-itself r s e = ap (is_this s) e ∙ same-refl s

-- of rows without one outside, each is marked exactly where it belongs to an exact split or merge
exact-at : (kind_of : List ℕ → Option Kind) (rows : List Row) → list_any (is_outside kind_of rows) rows ≡ false → All (λ (r : Row). is_in_exact kind_of rows r ≡ r.exact) rows
exact-at kind_of rows none k d lt = marked-as (is_exact_split kind_of rows r.old) (is_into_merge kind_of rows r.new) r.exact
    (none-at (is_outside kind_of rows) rows none k d lt)
    (λ e. picked-at (is_row_of r.old) rows (last-true (is_split (kind_of r.old)) _ e) k d lt (same-refl r.old))
    (into r.new refl)
  where
    r : Row
    r = get_or rows k d

    into : (new : Option (List ℕ)) → r.new ≡ new → is_into_merge kind_of rows new ≡ true → r.exact ≡ true
    into None is e = cc e
    into (Some s) is e = picked-at (names_successor s) rows (last-true (is_merge kind_of rows s) _ e) k d lt (of-itself r s is)

left-same : (kind_of : List ℕ → Option Kind) (rows : List Row) (id : List ℕ) (rs : List Row) → All (λ (r : Row). is_in_exact kind_of rows r ≡ r.exact) rs
    → list_any (λ (r : Row). is_row_of id r && is_in_exact kind_of rows r) rs ≡ is_marked rs id
left-same kind_of rows id [] all = refl
left-same kind_of rows id (x ∷ xs) all =
    let P : Row → Type 0 = λ (r : Row). is_in_exact kind_of rows r ≡ r.exact in
    ap₂ (λ (a b : Bool). (is_row_of id x && a) || b) (All-head P x xs all) (left-same kind_of rows id xs (All-tail P x xs all))

-- where no marked row is outside exact splits and merges, what is left exactly is what has a marked row
pub left-exactly : (kind_of : List ℕ → Option Kind) (rows : List Row) (id : List ℕ) → list_any (is_outside kind_of rows) rows ≡ false → is_left_exactly kind_of rows id ≡ is_marked rows id
left-exactly kind_of rows id none = left-same kind_of rows id rows (exact-at kind_of rows none)

-- ---- the identifiers of marked rows, row by row
pub marked-next : (id : List ℕ) (rows : List Row) (i : ℕ) (r : Row) → i < length rows → r ≡ get_or rows i r
    → (is_marked (take i rows) id || (is_row_of id r && r.exact)) ≡ is_marked (take (i + 1) rows) id
marked-next id rows i r lt is =
    ap (λ (x : Row). is_marked (take i rows) id || (is_row_of id x && x.exact)) is ∙ sym (list_any_more (λ (x : Row). is_row_of id x && x.exact) rows i r lt)

-- a marked row adds its identifier
pub marked-more : (id : List ℕ) (r : Row) (was is : Bool) → r.exact ≡ true → is ≡ cond (same_id r.old id) true was → is ≡ (was || (is_row_of id r && r.exact))
marked-more id r was is e h = h ∙ or-cond (same_id r.old id) was ∙ ap (λ (b : Bool). was || b) (same-sym r.old id ∙ with-true (is_row_of id r) r.exact e)
  where
    with-true : (a b : Bool) → b ≡ true → a ≡ (a && b)
    with-true true b e = sym e
    with-true false b e = refl
