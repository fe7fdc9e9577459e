-- Groups, one further.
use Rattle.std.proofs.Common.{◌≡◌, ◌∙◌, ◌&&◌, ◌||◌, ◌++◌, ◌∷◌, ◌+◌, ◌<◌, [], refl, sym, ap, subst, arith, ℕ, List, Bool, true, false, not, cond, Option, All, map, filter, take, length, get_or, nat_lt}
use Rattle.std.specs.List.Sorted.{IsStrictlySortedBy}
use Rattle.std.proofs.lemmas.Bool.{and_from, and_parts}
use Rattle.std.proofs.lemmas.List.{map-append}
use Rattle.std.proofs.lemmas.List.Elements.{All-append, All-cons, All-nil, All-weaker, filter-append}
use Rattle.std.proofs.lemmas.List.Folds.{list_any_at, list_any_more}
use Rattle.lpis_lineage.proofs.Common.{list_any, Row, is_ended, has_id, same_id, is_row_of, names_successor}
use Rattle.lpis_lineage.specs.declared.exact.Group.{Group}
use Rattle.lpis_lineage.specs.declared.kind.Kind.{Kind}
use Rattle.lpis_lineage.specs.Changes.{Changes, IsChange, kind_at}
use Rattle.lpis_lineage.specs.Descendants.{leads}
use Rattle.lpis_lineage.specs.ExactGroups.{AreExactGroups, as_split, is_exact_merge, is_exact_split, is_kept, is_other, is_split, leads_into, group_name}
use Rattle.lpis_lineage.specs.Kinds.{predecessors, successors}
use Rattle.lpis_lineage.specs.Order.{IsAscending}
use Rattle.lpis_lineage.specs.private.Gathered.{HasOthers, as_group, gathers, is_exact_of}
use Rattle.lpis_lineage.proofs.ExactLemmas.{split-of}
use Rattle.lpis_lineage.proofs.IdentifierLemmas.{same-refl}
use Rattle.lpis_lineage.proofs.PickingLemmas.{ascending-filter, has-filter}
use Rattle.lpis_lineage.proofs.TellingLemmas.{take-at}

-- the empty list of identifiers ascends
pub ascending-none : IsAscending []
unfolding IsStrictlySortedBy
ascending-none = tt

-- one element more
pub any-next : {A : Type 0} (p : A → Bool) (xs : List A) (i : ℕ) (x : A) → i < length xs → x ≡ get_or xs i x → (list_any p (take i xs) || p x) ≡ list_any p (take (i + 1) xs)
any-next p xs i x lt is = ap (λ y. list_any p (take i xs) || p y) is ∙ sym (list_any_more p xs i x lt)

-- the names of the first identifiers that pass, and of the next if it does, are those of one identifier more
pub names-next : (f : List ℕ → Bool × List ℕ) (p : List ℕ → Bool) (ids : List (List ℕ)) (i : ℕ) (id : List ℕ) → i < length ids → id ≡ get_or ids i id
    → map f (filter p (take i ids)) ++ map f (filter p (id ∷ [])) ≡ map f (filter p (take (i + 1) ids))
names-next f p ids i id lt is =
    sym (map-append f (filter p (take i ids)) (filter p (id ∷ []))) ∙ ap (λ (xs : List (List ℕ)). map f xs) (sym (filter-append p (take i ids) (id ∷ [])))
    ∙ ap (λ (xs : List (List ℕ)). map f (filter p xs)) (take-at ids i id lt is)

-- ---- the others of a group
gathered-merge : (s x : List ℕ) (t : Bool) (rows : List Row) → list_any (λ (r : Row). names_successor s r
    && (is_row_of x r || t)) rows ≡ (list_any (leads x s) rows || (list_any (names_successor s) rows && t))
gathered-merge s x t [] = refl
gathered-merge s x t (r ∷ rs) = grind (arith, gathered-merge s x t rs)

gathered : (kind_of : List ℕ → Option Kind) (rows : List Row) (merge : Bool) (id x : List ℕ) → (merge ≡ true → list_any (names_successor id) rows ≡ true)
    → list_any (gathers kind_of merge id x) rows ≡ cond merge (leads_into kind_of rows id x) (list_any (leads id x) rows)
gathered kind_of rows false id x there = refl
gathered kind_of rows true id x there = gathered-merge id x (same_id x id && is_kept (kind_of x)) rows
    ∙ ap (λ (b : Bool). list_any (leads x id) rows || (b && (same_id x id && is_kept (kind_of x)))) (there refl)

-- a group with the ascending set gathered for its identifier has the others of its rows
pub has-others : (kind_of : List ℕ → Option Kind) (rows : List Row) (merge : Bool) (id : List ℕ) (set : List (List ℕ)) (g : Group) → (merge ≡ true → list_any (names_successor id) rows ≡ true)
    → ((x : List ℕ) → has_id set x ≡ list_any (gathers kind_of merge id x) rows) → group_name g ≡ as_group merge id → g.others ≡ set → IsAscending g.others → HasOthers kind_of rows merge g
has-others kind_of rows merge id set g there are n o a = record {
  is_merge = m;
  ascend = a;
  others = λ q. ap (λ (l : List (List ℕ)). has_id l q) o ∙ are q ∙ gathered kind_of rows merge id q there
      ∙ ap (λ (p : Bool × List ℕ). cond p.0 (leads_into kind_of rows p.1 q) (list_any (leads p.1 q) rows)) (sym n);
} where
  m : g.merge ≡ merge
  m = ap (λ (p : Bool × List ℕ). p.0) n

-- where each group of a list has its others, and one more group does, so does each of the longer list
pub others-added : (kind_of : List ℕ → Option Kind) (rows : List Row) (merge : Bool) (gs new : List Group) (g : Group) → new ≡ gs ++ g ∷ [] → HasOthers kind_of rows merge g
    → All (HasOthers kind_of rows merge) gs → All (HasOthers kind_of rows merge) new
others-added kind_of rows merge gs new g e h a =
    subst (λ (xs : List Group). All (HasOthers kind_of rows merge) xs) (sym e)
    (All-append (HasOthers kind_of rows merge) gs (g ∷ []) a (All-cons (HasOthers kind_of rows merge) g [] h (All-nil (HasOthers kind_of rows merge))))

-- ---- all groups
pub all-named : (ids : List (List ℕ)) (rows : List Row) → ((s : List ℕ) → has_id ids s ≡ list_any (names_successor s) rows) → All (λ (id : List ℕ). list_any (names_successor id) rows ≡ true) ids
all-named ids rows e = λ k d l. let x = get_or ids k d in sym (e x) ∙ list_any_at (same_id x) ids k d l (same-refl x)

-- an identifier of the kind split is dropped
split-dropped : (last live : List (List ℕ)) (rows : List Row) (c : Changes) → IsChange last live rows c → (id : List ℕ) → is_split (kind_at c id) ≡ true → has_id c.dropped_ids id ≡ true
split-dropped last live rows c is id e =
    let p = split-of (has_id last id) (has_id live id) (is_ended rows id) (nat_lt 1 (length (successors rows id))) (list_any (λ s. nat_lt 1 (predecessors last live rows s)) (successors rows id))
    (ap is_split (sym (is.kinds_are id)) ∙ e) in
    ap (λ (l : List (List ℕ)). has_id l id) is.dropped_are ∙ has-filter (λ x. not (has_id live x)) last id ∙ and_from (has_id last id) _ p.0 (ap not p.1)

absorbed : (a b : Bool) → (b ≡ true → a ≡ true) → (a && b) ≡ b
absorbed true b h = refl
absorbed false true h = h refl
absorbed false false h = refl

left_parts : (a b c : Bool) → ((a && b) && c) ≡ true → a ≡ true
left_parts true b c e = refl
left_parts false b c e = cc e

-- the groups of the exact splits, then those of the exact merges, are the exact groups of a change
pub groups-exact : (last live : List (List ℕ)) (c : Changes) (named_successors : List (List ℕ)) (gs ms all : List Group) → IsChange last live c.rows c → IsAscending c.dropped_ids
    → IsAscending named_successors → ((s : List ℕ) → has_id named_successors s ≡ list_any (names_successor s) c.rows)
    → map group_name gs ≡ map (as_group false) (filter (is_exact_of false (kind_at c) c.rows) c.dropped_ids)
    → map group_name ms ≡ map (as_group true) (filter (is_exact_of true (kind_at c) c.rows) named_successors) → All (HasOthers (kind_at c) c.rows false) gs → All (HasOthers (kind_at c) c.rows true) ms
    → all ≡ gs ++ ms → AreExactGroups (kind_at c) c.rows all
groups-exact last live c named_successors gs ms all is da ha are n m o p e = record {
  splits = filter (is_exact_of false (kind_at c) c.rows) c.dropped_ids;
  merges = filter (is_exact_of true (kind_at c) c.rows) named_successors;
  listed = ap (λ (xs : List Group). map group_name xs) e ∙ map-append group_name gs ms
      ∙ ap (λ (ns : List (Bool × List ℕ)). ns ++ map group_name ms) n
      ∙ ap (λ (ns : List (Bool × List ℕ)). map as_split (filter (is_exact_of false (kind_at c) c.rows) c.dropped_ids) ++ ns) m;
  splits_ascend = ascending-filter (is_exact_of false (kind_at c) c.rows) c.dropped_ids da;
  merges_ascend = ascending-filter (is_exact_of true (kind_at c) c.rows) named_successors ha;
  splits_are = λ id. has-filter (is_exact_of false (kind_at c) c.rows) c.dropped_ids id
      ∙ absorbed (has_id c.dropped_ids id) (is_exact_split (kind_at c) c.rows id) (λ t. split-dropped last live c.rows c is id (and_parts (is_split (kind_at c id)) _ t).0);
  merges_are = λ s. has-filter (is_exact_of true (kind_at c) c.rows) named_successors s
      ∙ absorbed (has_id named_successors s) (is_exact_merge (kind_at c) c.rows s) (λ t. are s ∙ left_parts (list_any (names_successor s) c.rows) _ _ t);
  others_ascend = subst (λ (xs : List Group). All (λ (g : Group). IsAscending g.others) xs) (sym e)
      (All-append (λ (g : Group). IsAscending g.others) gs ms (ascends false gs o) (ascends true ms p));
  others = subst (λ (xs : List Group). All (λ (g : Group). (q : List ℕ) → has_id g.others q ≡ is_other (kind_at c) c.rows g q) xs) (sym e)
      (All-append (λ (g : Group). (q : List ℕ) → has_id g.others q ≡ is_other (kind_at c) c.rows g q) gs ms (others_of false gs o) (others_of true ms p));
} where
  ascends : (merge : Bool) (xs : List Group) → All (HasOthers (kind_at c) c.rows merge) xs → All (λ (g : Group). IsAscending g.others) xs
  ascends merge xs h = All-weaker (HasOthers (kind_at c) c.rows merge) (λ (g : Group). IsAscending g.others) (λ g k. k.ascend) xs h

  others_of : (merge : Bool) (xs : List Group) → All (HasOthers (kind_at c) c.rows merge) xs → All (λ (g : Group). (q : List ℕ) → has_id g.others q ≡ is_other (kind_at c) c.rows g q) xs
  others_of merge xs h = All-weaker (HasOthers (kind_at c) c.rows merge) (λ (g : Group). (q : List ℕ) → has_id g.others q ≡ is_other (kind_at c) c.rows g q) (λ g k. k.others) xs h
