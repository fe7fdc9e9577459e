-- The kinds of identifiers, one further.
use Rattle.std.proofs.Common.{◌≡◌, ◌∙◌, ◌∷◌, ◌+◌, refl, sym, ap, ℕ, List, length, Bool, true, false, Option, None, Some, cond, ◌&&◌, ◌||◌, nat_lt}
use Rattle.lpis_lineage.proofs.Common.{list_any, has_id, same_id, Row, is_ended, named_successors, kind, id_times}
use Rattle.lpis_lineage.specs.declared.kind.Kind.{Kind}
use Rattle.lpis_lineage.specs.declared.kind.Kind.TheVariants.{Kept, Ended}
use Rattle.lpis_lineage.specs.Kinds.{by_counts, predecessors, successors}
use Rattle.lpis_lineage.proofs.IdentifierLemmas.{same-exact, same-sym}
use Rattle.lpis_lineage.proofs.SeenLemmas.{any-same}

-- what was left begins with the identifier
pub kinds-step : (K : List ℕ → Option Kind) (left rest : List (List ℕ)) (id copy q : List ℕ) (k : Kind) (old new : Option Kind) → left ≡ id ∷ rest → copy ≡ id → Some k ≡ K id
    → cond (has_id left q) (K q) old ≡ K q → new ≡ cond (same_id copy q) (Some k) old → cond (has_id rest q) (K q) new ≡ K q
kinds-step K left rest id copy q k old new begins c there o n =
    ap (λ (x : Option Kind). cond (has_id rest q) (K q) x) (n ∙ ap (λ (z : List ℕ). cond (same_id z q) (Some k) old) c)
    ∙ by (has_id rest q) (same_id id q) refl (ap (λ (b : Bool). cond (b || has_id rest q) (K q) old) (same-sym id q) ∙ sym (ap (λ (l : List (List ℕ)). cond (has_id l q) (K q) old) begins) ∙ o) where
      by : (h s : Bool) → s ≡ same_id id q → cond (s || h) (K q) old ≡ K q → cond h (K q) (cond s (Some k) old) ≡ K q
      by true s e o = refl
      by false true e o = there ∙ ap K (same-exact id q (sym e))
      by false false e o = o

-- sets with the same members give the same kinds
pub kind-live : (last a b : List (List ℕ)) (rows : List Row) (id : List ℕ) → ((q : List ℕ) → has_id a q ≡ has_id b q) → kind last a rows id ≡ kind last b rows id
kind-live last a b rows id e =
    ap
    (λ (t : Bool). cond (has_id last id)
    (Some
    (cond t Kept
    (cond (is_ended rows id) Ended (by_counts (nat_lt 1 (length (successors rows id)))
    (list_any (λ s. nat_lt 1 (predecessors last a rows s)) (successors rows id)))))) None) (e id)
    ∙ ap (λ (t : Bool). cond (has_id last id) (Some (cond (has_id b id) Kept (cond (is_ended rows id) Ended (by_counts (nat_lt 1 (length (successors rows id))) t)))) None)
    (any-same (λ s. nat_lt 1 (predecessors last a rows s)) (λ s. nat_lt 1 (predecessors last b rows s))
    (successors rows id) (λ s. ap (λ (t : Bool). nat_lt 1 (id_times (named_successors rows) s + cond (has_id last s && t) 1 0))
    (e s)))
