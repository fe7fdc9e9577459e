-- What adding a release takes, of its set of identifiers and of the list that was handed in.
use Rattle.std.proofs.Common.{◌≡◌, ◌∙◌, refl, sym, ap, subst, ℕ, List, [], ◌∷◌, Bool, true, false, Option, None, Some, ◌&&◌, ◌||◌, not, is_some, filter}
use Rattle.std.specs.List.{AllByRecursion}
use Rattle.lpis_lineage.proofs.Common.{has_id, same_id, Row, Entry, Span, Follows, faults, last_live, span_of}
use Rattle.lpis_lineage.specs.Changes.{Changes}
use Rattle.lpis_lineage.specs.Steps.{IsStep}
use Rattle.lpis_lineage.specs.private.Keeping.{IsNext}
use Rattle.lpis_lineage.proofs.AcceptingLemmas.{clean-live}
use Rattle.lpis_lineage.proofs.CleanLemmas.{follows-from-clean}
use Rattle.lpis_lineage.proofs.ExtensionLemmas.{last-some}
use Rattle.lpis_lineage.proofs.IdentifierLemmas.{same-exact}
use Rattle.lpis_lineage.proofs.KindStepLemmas.{kind-live}
use Rattle.lpis_lineage.proofs.PickingLemmas.{filter-same, has-filter}
use Rattle.lpis_lineage.proofs.SpanStepLemmas.{none-held, some-held}

-- what holds for all of a list holds for an identifier that is among them
pub has-all : (P : List ℕ → Type 0) (ids : List (List ℕ)) (q : List ℕ) → AllByRecursion P ids → has_id ids q ≡ true → P q
has-all P [] q all h = cc h
has-all P (x ∷ xs) q all h = by (λ r. has-all P xs q all.1 r) (same_id q x) refl h where
  by : (has_id xs q ≡ true → P q) → (b : Bool) → b ≡ same_id q x → (b || has_id xs q) ≡ true → P q
  by rest true e h = subst P (sym (same-exact q x (sym e))) all.0
  by rest false e h = rest h

-- of a release without a fault, those identifiers have no span that the last release lacks
pub fresh-lacking : (h : List Entry) (live : List (List ℕ)) (rows : List Row) → faults h live rows ≡ [] → (q : List ℕ)
    → has_id (filter (λ id. not (has_id (last_live h) id)) live) q ≡ (has_id live q && not (is_some (span_of h q)))
fresh-lacking h live rows none q =
    has-filter (λ id. not (has_id (last_live h) id)) live q ∙ by (follows-from-clean h live rows none) (has_id live q) refl (has_id (last_live h) q) refl (span_of h q) refl where
      by : Follows h live rows → (l : Bool) → l ≡ has_id live q → (b : Bool) → b ≡ has_id (last_live h) q → (o : Option Span) → o ≡ span_of h q → (l && not b) ≡ (l && not (is_some o))
      by f false el b eb o eo = refl
      by f true el true eb (Some s) eo = refl
      by f true el true eb None eo = absurd (let p = last-some h q (sym eb) in let n = none-held h q (sym eo) p.0 in let y = p.2 in cc)
      by f true el false eb None eo = refl
      by f true el false eb (Some s) eo = absurd (let p = some-held h q s (sym eo) in let y = f.not_used q p.0 p.1 (sym el) in cc)

-- what is made of a set is what adding a release of a list with the same members takes
pub step-alike : (h : List Entry) (made set live : List (List ℕ)) (rows : List Row) (change : Changes) (fresh : List (List ℕ))
    → ((q : List ℕ) → has_id set q ≡ has_id live q) → faults h live rows ≡ [] → IsStep h set rows made change fresh → IsStep h live rows made change fresh
step-alike h made set live rows change fresh alike none step = record {
  faultless = none;
  live_are = λ q. step.live_are q ∙ alike q;
  change_is = record {
    kinds_are = λ id. step.change_is.kinds_are id ∙ kind-live (last_live h) set live rows id alike;
    dropped_are = step.change_is.dropped_are ∙ filter-same (λ id. not (has_id set id)) (λ id. not (has_id live id)) (last_live h) (λ id. ap not (alike id));
    rows_are = step.change_is.rows_are;
  };
  fresh_are = record {
    are = λ q. step.fresh_are.are q ∙ ap (λ (b : Bool). b && not (is_some (span_of h q))) (alike q);
    ascend = step.fresh_are.ascend;
    ids = step.fresh_are.ids;
  };
}

-- and the set stands after the history with what was made
pub step-next : (h : List Entry) (ids : List (List ℕ)) (rows : List Row) (set : List (List ℕ)) (change : Changes) (fresh : List (List ℕ))
    → IsStep h ids rows set change fresh → IsNext h set change.rows change.dropped_ids fresh
step-next h ids rows set change fresh step = record {
  faultless = subst (λ (rs : List Row). faults h set rs ≡ []) (sym step.change_is.rows_are) (clean-live h set ids rows step.live_are step.faultless);
  gone_are = λ q.
      ap (λ (l : List (List ℕ)). has_id l q) step.change_is.dropped_are ∙ has-filter (λ id. not (has_id ids id)) (last_live h) q
      ∙ ap (λ (b : Bool). has_id (last_live h) q && not b) (sym (step.live_are q));
  fresh_are = λ q. step.fresh_are.are q ∙ ap (λ (b : Bool). b && not (is_some (span_of h q))) (sym (step.live_are q));
}
