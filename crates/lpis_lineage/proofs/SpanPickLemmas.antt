-- The identifiers whose span holds a year, one further.
use Rattle.std.proofs.Common.{◌≡◌, ◌∙◌, ◌<◌, ◌+◌, refl, sym, ap, ℕ, List, [], ◌∷◌, ◌++◌, length, Bool, true, false, cond, take, get_or}
use Rattle.lpis_lineage.proofs.Common.{Span}
use Rattle.lpis_lineage.specs.Spans.{live_in}
use Rattle.std.proofs.lemmas.List.{append-nil}
use Rattle.lpis_lineage.specs.Spans.{in_span}
use Rattle.lpis_lineage.proofs.TellingLemmas.{take-at}

live-push : (ps : List (List ℕ × Span)) (p : List ℕ × Span) (y : ℕ) → live_in (ps ++ p ∷ []) y ≡ live_in ps y ++ cond (in_span p.1 y) (p.0 ∷ []) []
live-push [] p y = refl
live-push (x ∷ xs) p y = ap (λ (l : List (List ℕ)). cond (in_span x.1 y) (x.0 ∷ l) l) (live-push xs p y) ∙ out (in_span x.1 y) (live_in xs y) (cond (in_span p.1 y) (p.0 ∷ []) []) where
  out : (b : Bool) (l r : List (List ℕ)) → cond b (x.0 ∷ (l ++ r)) (l ++ r) ≡ cond b (x.0 ∷ l) l ++ r
  out true l r = refl
  out false l r = refl

-- one identifier further, whose span holds the year: it is added
pub live-then : (ps : List (List ℕ × Span)) (i : ℕ) (p : List ℕ × Span) (copy : List ℕ) (y : ℕ)
    (found new : List (List ℕ)) → i < length ps → p ≡ get_or ps i p → copy ≡ p.0 → in_span p.1 y ≡ true
    → found ≡ live_in (take i ps) y → new ≡ found ++ copy ∷ [] → new ≡ live_in (take (i + 1) ps) y
live-then ps i p copy y found new lt is c t f n =
    n ∙ ap (λ (l : List (List ℕ)). l ++ copy ∷ []) f ∙ ap (λ (x : List ℕ). live_in (take i ps) y ++ x ∷ []) c
    ∙ ap (λ (b : Bool). live_in (take i ps) y ++ cond b (p.0 ∷ []) []) (sym t)
    ∙ sym (live-push (take i ps) p y) ∙ ap (λ (l : List (List ℕ × Span)). live_in l y) (take-at ps i p lt is)

-- one identifier further, whose span does not hold the year: none is added
pub live-else : (ps : List (List ℕ × Span)) (i : ℕ) (p : List ℕ × Span) (y : ℕ) (found : List (List ℕ)) → i < length ps
    → p ≡ get_or ps i p → in_span p.1 y ≡ false → found ≡ live_in (take i ps) y → found ≡ live_in (take (i + 1) ps) y
live-else ps i p y found lt is t f =
    f ∙ sym (append-nil (live_in (take i ps) y)) ∙ ap (λ (b : Bool). live_in (take i ps) y ++ cond b (p.0 ∷ []) []) (sym t)
    ∙ sym (live-push (take i ps) p y) ∙ ap (λ (l : List (List ℕ × Span)). live_in l y) (take-at ps i p lt is)
