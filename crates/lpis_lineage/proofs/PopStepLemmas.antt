-- Spans begun for the identifiers of a list, one after the other from its end.
use Rattle.std.proofs.Common.{◌≡◌, ◌∙◌, refl, sym, ap, ℕ, List, [], ◌∷◌, ◌++◌, Bool, true, false, Option, None, Some, cond, ◌||◌}
use Rattle.lpis_lineage.proofs.Common.{has_id, same_id, Span, begun}
use Rattle.lpis_lineage.proofs.IdentifierLemmas.{same-sym}
use Rattle.lpis_lineage.proofs.SeenLemmas.{any-push}

has-push : (ids : List (List ℕ)) (id q : List ℕ) → has_id (ids ++ id ∷ []) q ≡ (has_id ids q || same_id q id)
has-push ids id q = any-push (same_id q) ids id

-- beginning the span of the last identifier, then those of the rest, begins the spans of all
pub begun-pop : (all ids : List (List ℕ)) (id q : List ℕ) (year : ℕ) (old new : Option Span) → all ≡ ids ++ id ∷ []
    → new ≡ cond (same_id id q) (Some (record { first = year; last = 0 })) old → begun (has_id ids q) year new ≡ begun
    (has_id all q) year old
begun-pop all ids id q year old new a n =
    ap (λ (o : Option Span). begun (has_id ids q) year o) (n ∙ ap (λ (b : Bool). cond b (Some (record { first = year; last = 0 })) old) (same-sym id q))
    ∙ by (has_id ids q) (same_id q id) ∙ ap (λ (b : Bool). begun b year old) (sym (has-push ids id q)) ∙ ap (λ (l : List (List ℕ)). begun (has_id l q) year old) (sym a) where
      by : (h s : Bool) → begun h year (cond s (Some (record { first = year; last = 0 })) old) ≡ begun (h || s) year old
      by true s = refl
      by false true = refl
      by false false = refl
