-- Splits and merges by kinds and by counts.
use Rattle.std.proofs.Common.{◌≡◌, ◌∙◌, ◌≤◌, ◌<◌, ◌↔◌, inl, inr, refl, sym, ap, arith, ℕ, List, [], ◌∷◌, length, Bool, true, false, Option, None, Some, is_some, cond, ◌&&◌, ◌||◌, nat_lt, get_or, All}
use Rattle.std.proofs.Common.{filter}
use Rattle.std.proofs.lemmas.Bool.{and_from, and_parts, or_right}
use Rattle.std.proofs.lemmas.List.Elements.{All-cons, All-nil, All-weaker}
use Rattle.std.proofs.lemmas.List.Folds.{list_any_at, list_any_none}
use Rattle.std.proofs.lemmas.List.Sums.{AllPass-from_list_all, list_all-from_AllPass}
use Rattle.lpis_lineage.proofs.Common.{nat_tests, list_any, cases_Bool, or_left, Row, Entry, Follows, has_id}
use Rattle.lpis_lineage.proofs.Common.{same_id, is_ended, faults, named_successors, is_row_of, is_this, kind, last_live, names_successor}
use Rattle.lpis_lineage.proofs.Common.{succeeded}
use Rattle.lpis_lineage.specs.Descendants.{leads}
use Rattle.lpis_lineage.specs.ExactGroups.{is_merge, is_merged, is_split}
use Rattle.lpis_lineage.specs.ExactLaws.{IsMerge, IsSplit}
use Rattle.lpis_lineage.specs.Kinds.{by_counts, predecessors, successors, with_some}
use Rattle.lpis_lineage.specs.declared.kind.Kind.TheVariants.{Ended, Kept}
use Rattle.lpis_lineage.specs.private.Fates.{on_some}
use Rattle.lpis_lineage.proofs.CleanLemmas.{follows-from-clean, mono}
use Rattle.lpis_lineage.proofs.FateLemmas.{successors-any}
use Rattle.lpis_lineage.proofs.IdentifierLemmas.{same-exact, same-refl}
use Rattle.lpis_lineage.proofs.RowCountLemmas.{filter-some, from-answered}
use Rattle.lpis_lineage.proofs.SeenLemmas.{any-same}

-- ---- kinds
pub split-of : (w l e a b : Bool) → is_split (cond w (Some (cond l Kept (cond e Ended (by_counts a b)))) None) ≡ true → (w ≡ true) × (l ≡ false) × (a ≡ true) × (b ≡ false)
split-of true false false true false t = (refl, refl, refl, refl)
split-of true false false true true t = cc t
split-of true false false false true t = cc t
split-of true false false false false t = cc t
split-of true false true a b t = cc t
split-of true true e a b t = cc t
split-of false l e a b t = cc t

split-to : (w l e a b : Bool) → w ≡ true → l ≡ false → e ≡ false → a ≡ true → b ≡ false → is_split (cond w (Some (cond l Kept (cond e Ended (by_counts a b)))) None) ≡ true
split-to w l e a b p q r s t = rw (p, q, r, s, t)

merged-of : (w l e a b : Bool) → is_merged (cond w (Some (cond l Kept (cond e Ended (by_counts a b)))) None) ≡ true → (a ≡ false) × (b ≡ true)
merged-of true false false false true t = (refl, refl)
merged-of true false false true true t = cc t
merged-of true false false true false t = cc t
merged-of true false false false false t = cc t
merged-of true false true a b t = cc t
merged-of true true e a b t = cc t
merged-of false l e a b t = cc t

merged-to : (w l e a b : Bool) → w ≡ true → l ≡ false → e ≡ false → a ≡ false → b ≡ true → is_merged (cond w (Some (cond l Kept (cond e Ended (by_counts a b)))) None) ≡ true
merged-to w l e a b p q r s t = rw (p, q, r, s, t)

-- ---- successors
-- a successor of an identifier is one that the rows name
named_successors-kept : (rows : List Row) (id s : List ℕ) → has_id (successors rows id) s ≡ true → has_id (named_successors rows) s ≡ true
named_successors-kept [] id s e = cc e
named_successors-kept (r ∷ rs) id s e = by (is_row_of id r) e (named_successors-kept rs id s)
  where
    out : (o : Option (List ℕ)) (xs ys : List (List ℕ)) → (has_id xs s ≡ true → has_id ys s ≡ true) → has_id (with_some o xs) s ≡ true → has_id (with_some o ys) s ≡ true
    out None xs ys h e = h e
    out (Some t) xs ys h e = grind (arith, h)

    more : (o : Option (List ℕ)) (xs : List (List ℕ)) → has_id xs s ≡ true → has_id (with_some o xs) s ≡ true
    more None xs h = h
    more (Some t) xs h = or_right (same_id s t) _ h

    by : (b : Bool) → has_id (named_successors (cond b (r ∷ filter (is_row_of id) rs) (filter (is_row_of id) rs))) s ≡ true
        → (has_id (successors rs id) s ≡ true → has_id (named_successors rs) s ≡ true) → has_id (named_successors (r ∷ rs)) s ≡ true
    by true e h = out r.new (successors rs id) (named_successors rs) h e
    by false e h = more r.new (named_successors rs) (h e)

-- so it has a predecessor
has-predecessor : (last live : List (List ℕ)) (rows : List Row) (id s : List ℕ) → has_id (successors rows id) s ≡ true → 1 ≤ predecessors last live rows s
has-predecessor last live rows id s e = let n = filter-some (same_id s) (named_successors rows) (named_successors-kept rows id s e) in omega (arith, n)

named-leads : (rows : List Row) (id s : List ℕ) → list_any (leads id s) rows ≡ has_id (successors rows id) s
named-leads rows id s =
    any-same (leads id s) (λ r. is_row_of id r && on_some (same_id s) r.new) rows (λ r. ap (λ (b : Bool). is_row_of id r && b) (by r.new)) ∙ sym (successors-any (same_id s) rows id)
  where
    by : (o : Option (List ℕ)) → is_this s o ≡ on_some (same_id s) o
    by None = refl
    by (Some t) = refl

-- each row that names a successor leads to it
kept-leads : (s : List ℕ) (rows : List Row) → All (λ (r : Row). list_any (leads r.old s) rows ≡ true) (filter (names_successor s) rows)
kept-leads s [] = All-nil (λ (r : Row). false ≡ true)
kept-leads s (x ∷ rs) = by (names_successor s x) refl (All-weaker (λ (r : Row). list_any (leads r.old s) rs ≡ true)
    (λ (r : Row). list_any (leads r.old s) (x ∷ rs) ≡ true)
    (λ r h. or_right (leads r.old s x) _ h) (filter (names_successor s) rs) (kept-leads s rs))
  where
    by : (b : Bool) → b ≡ names_successor s x → All (λ (r : Row). list_any (leads r.old s) (x ∷ rs) ≡ true) (filter (names_successor s) rs)
        → All (λ (r : Row). list_any (leads r.old s) (x ∷ rs) ≡ true) (cond b (x ∷ filter (names_successor s) rs) (filter (names_successor s) rs))
    by true e rest = All-cons (λ (r : Row). list_any (leads r.old s) (x ∷ rs) ≡ true) x (filter (names_successor s) rs)
        (or_left (leads x.old s x) _ (and_from (same_id x.old x.old) _ (same-refl x.old) (sym e))) rest
    by false e rest = rest

-- a list of one identifier, and what holds of that
single : (p : List ℕ → Bool) (xs : List (List ℕ)) (s : List ℕ) → has_id xs s ≡ true → nat_lt 1 (length xs) ≡ false → (length xs ≡ 1) × (list_any p xs ≡ p s)
single p [] s e few = cc e
single p (t ∷ []) s e few = (refl, by (same_id s t) refl e)
  where
    by : (b : Bool) → b ≡ same_id s t → (b || false) ≡ true → (p t || false) ≡ p s
    by true q e = ap (λ (x : List ℕ). p x || false) (sym (same-exact s t (sym q))) ∙ plain (p s)
      where
        plain : (c : Bool) → (c || false) ≡ c
        plain true = refl
        plain false = refl
    by false q e = cc e
single p (t ∷ (u ∷ us)) s e few = absurd (
    let n : 1 < length (t ∷ (u ∷ us)) = omega arith in
    let y : nat_lt 1 (length (t ∷ (u ∷ us))) ≡ true = grind (arith, nat_tests) in let z : true ≡ false = sym y ∙ few in cc z)

one_few : (n : ℕ) → n ≡ 1 → nat_lt 1 n ≡ false
one_few n e = grind (arith, nat_tests)

many : (n : ℕ) → 1 < n → nat_lt 1 n ≡ true
many n l = grind (arith, nat_tests)

many-of : (n : ℕ) → nat_lt 1 n ≡ true → 1 < n
many-of n e = grind (arith, nat_tests)

few-of : (n : ℕ) → nat_lt 1 n ≡ false → n ≤ 1
few-of n e = grind (arith, nat_tests)

-- ---- rows without a fault
-- an identifier with a successor is dropped, and not ended
dropped : (h : List Entry) (live : List (List ℕ)) (rows : List Row) → Follows h live rows → (id s : List ℕ) → has_id (successors rows id) s ≡ true
    → (has_id (last_live h) id ≡ true) × (has_id live id ≡ false) × (is_ended rows id ≡ false)
dropped h live rows f id s e = (d.0, d.1, by (is_ended rows id) refl)
  where
    of : list_any (is_row_of id) rows ≡ true
    of = mono (leads id s) (is_row_of id) rows (λ r l. (and_parts (is_row_of id r) _ l).0) (named-leads rows id s ∙ e)

    d : (has_id (last_live h) id ≡ true) × (has_id live id ≡ false)
    d = f.dropped id of

    has-some : (o : Option (List ℕ)) → is_this s o ≡ true → is_some o ≡ true
    has-some None e = cc e
    has-some (Some t) e = refl

    succeeds : succeeded rows id ≡ true
    succeeds = mono (leads id s) (λ (r : Row). is_row_of id r && is_some r.new) rows
        (λ r l. and_from (is_row_of id r) _ (and_parts (is_row_of id r) _ l).0 (has-some r.new (and_parts (is_row_of id r) _ l).1)) (named-leads rows id s ∙ e)

    by : (b : Bool) → b ≡ is_ended rows id → b ≡ false
    by false e = refl
    by true e = absurd (let x = from-answered rows id (f.answered id d.0 d.1) (sym e) succeeds in cc x)

-- an identifier with several successors has one
some-successor : (xs : List (List ℕ)) → 1 < length xs → (s : List ℕ) × (has_id xs s ≡ true)
some-successor [] l = absurd (omega arith)
some-successor (s ∷ xs) l = (s, or_left (same_id s s) _ (same-refl s))

-- without a fault, of the kind split is exactly what is dropped for several successors, each of one predecessor
pub kinds-tell-splits : (h : List Entry) (live : List (List ℕ)) (rows : List Row) → faults h live rows ≡ [] → (id : List ℕ)
    → (is_split (kind (last_live h) live rows id) ≡ true) ↔ IsSplit (last_live h) live rows id
kinds-tell-splits h live rows none id = (to, from)
  where
    last : List (List ℕ)
    last = last_live h

    shared : List ℕ → Bool
    shared s = nat_lt 1 (predecessors (last_live h) live rows s)

    one : (n : ℕ) → 1 ≤ n → nat_lt 1 n ≡ false → n ≡ 1
    one n l e = let k = few-of n e in omega arith

    unshared : list_any (λ s. nat_lt 1 (predecessors (last_live h) live rows s)) (successors rows id) ≡ false → All (λ s. predecessors (last_live h) live rows s ≡ 1) (successors rows id)
    unshared e = λ k d l.
        let s = get_or (successors rows id) k d in
        let there : has_id (successors rows id) s ≡ true = list_any_at (same_id s) (successors rows id) k d l (same-refl s) in
        let n = predecessors (last_live h) live rows s in
        one n (has-predecessor (last_live h) live rows id s there) (elim (cases_Bool (nat_lt 1 n)) as (λ _. nat_lt 1 n ≡ false) [
          | inl t ↦ absurd (let x = sym (list_any_at (λ z. nat_lt 1 (predecessors (last_live h) live rows z)) (successors rows id) k d l t) ∙ e in cc x)
          | inr f ↦ f
        ])

    to : is_split (kind (last_live h) live rows id) ≡ true → IsSplit (last_live h) live rows id
    to e =
        let p = split-of (has_id (last_live h) id) (has_id live id) (is_ended rows id) (nat_lt 1 (length (successors rows id))) (list_any (λ s. nat_lt 1 (predecessors (last_live h) live rows s))
        (successors rows id)) e in
        record { was = p.0; gone = p.1; several = many-of _ p.2; alone = unshared p.3 }

    from : IsSplit (last_live h) live rows id → is_split (kind (last_live h) live rows id) ≡ true
    from s =
        let x = some-successor (successors rows id) s.several in
        let d = dropped h live rows (follows-from-clean h live rows none) id x.0 x.1 in
        split-to _ _ _ _ _ s.was s.gone d.2 (many _ s.several) (list_any_none (λ z. nat_lt 1 (predecessors (last_live h) live rows z)) (successors rows id) (λ k e l. one_few _ (s.alone k e l)))

-- without a fault, a successor is of a merge exactly where it has several predecessors with no other successor
pub kinds-tell-merges : (h : List Entry) (live : List (List ℕ)) (rows : List Row) → faults h live rows ≡ [] → (s : List ℕ)
    → (is_merge (kind (last_live h) live rows) rows s ≡ true) ↔ IsMerge (last_live h) live rows s
kinds-tell-merges h live rows none s = (to, from)
  where
    shared : List ℕ → Bool
    shared z = nat_lt 1 (predecessors (last_live h) live rows z)

    there : All (λ (r : Row). has_id (successors rows r.old) s ≡ true) (filter (names_successor s) rows)
    there = All-weaker (λ (r : Row). list_any (leads r.old s) rows ≡ true) (λ (r : Row). has_id (successors rows r.old) s
        ≡ true) (λ r l. sym (named-leads rows r.old s) ∙ l) (filter (names_successor s) rows) (kept-leads s rows)

    merged-at : (r : Row) → is_merged (kind (last_live h) live rows r.old) ≡ true → (nat_lt 1 (length (successors rows r.old)) ≡ false)
        × (list_any (λ z. nat_lt 1 (predecessors (last_live h) live rows z)) (successors rows r.old) ≡ true)
    merged-at r e = merged-of (has_id (last_live h) r.old) (has_id live r.old) (is_ended rows r.old) (nat_lt 1 (length (successors rows r.old))) (list_any (λ z. nat_lt 1 (predecessors
        (last_live h) live rows z)) (successors rows r.old)) e

    one-row : (r : Row) → is_merged (kind (last_live h) live rows r.old) ≡ true → has_id (successors rows r.old) s ≡ true
        → (length (successors rows r.old) ≡ 1) × (1 < predecessors (last_live h) live rows s)
    one-row r e t =
        let m = merged-at r e in
        let o = single (λ z. nat_lt 1 (predecessors (last_live h) live rows z)) (successors rows r.old) s t m.0 in
        (o.0, many-of _ (sym o.1 ∙ m.1))

    several-of : (xs : List Row) → 1 ≤ length xs → All (λ (r : Row). is_merged (kind (last_live h) live rows r.old) ≡ true) xs → All (λ (r : Row). has_id (successors rows r.old) s ≡ true) xs
        → 1 < predecessors (last_live h) live rows s
    several-of [] l a t = absurd (omega arith)
    several-of (r ∷ xs) l a t = let z : 0 < length (r ∷ xs) = omega arith in (one-row r (a 0 r z) (t 0 r z)).1

    to : is_merge (kind (last_live h) live rows) rows s ≡ true → IsMerge (last_live h) live rows s
    to e =
        let p = and_parts (list_any (names_successor s) rows) _ e in
        let each = AllPass-from_list_all (λ (r : Row). is_merged (kind (last_live h) live rows r.old)) (filter (names_successor s) rows) p.1 in
        record {
          named = p.0;
          several = several-of (filter (names_successor s) rows) (filter-some (names_successor s) rows p.0) each there;
          alone = λ k d l. (one-row (get_or (filter (names_successor s) rows) k d) (each k d l) (there k d l)).0;
        }

    merges : IsMerge (last_live h) live rows s → (r : Row) → has_id (successors rows r.old) s ≡ true → length (successors rows r.old) ≡ 1 → is_merged (kind (last_live h) live rows r.old) ≡ true
    merges m r t o =
        let d = dropped h live rows (follows-from-clean h live rows none) r.old s t in
        let few = one_few _ o in
        let x = single (λ z. nat_lt 1 (predecessors (last_live h) live rows z)) (successors rows r.old) s t few in
        merged-to _ _ _ _ _ d.0 d.1 d.2 few (x.1 ∙ many _ m.several)

    from : IsMerge (last_live h) live rows s → is_merge (kind (last_live h) live rows) rows s ≡ true
    from m = and_from (list_any (names_successor s) rows) _ m.named
        (list_all-from_AllPass (λ (r : Row). is_merged (kind (last_live h) live rows r.old)) (filter (names_successor s) rows)
        (λ k d l. merges m (get_or (filter (names_successor s) rows) k d) (there k d l) (m.alone k d l)))
