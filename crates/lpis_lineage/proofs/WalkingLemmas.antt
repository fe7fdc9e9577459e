-- Faults of identifiers, looked for among those alone that another set lacks.
use Rattle.std.proofs.Common.{◌≡◌, ◌∙◌, refl, sym, ap, ℕ, List, [], ◌∷◌, Bool, true, false, Option, None, Some, cond, ◌&&◌, not, is_some, filter}
use Rattle.lpis_lineage.proofs.Common.{list_any, has_id, Row, Entry, Span, LineageFault, is_row_of, fault_before, dropped_faults, used_faults, last_held, span_of}
use Rattle.lpis_lineage.specs.declared.fault.LineageFault.TheVariants.{NoRow}
use Rattle.lpis_lineage.specs.Faults.{used_fault_before}
use Rattle.lpis_lineage.proofs.CleanLemmas.{used-clean, clean-used}
use Rattle.lpis_lineage.proofs.SpanStepLemmas.{unlive-none}

-- the faults of identifiers that have no row
abbrev pub rowless : List Row → List (List ℕ) → List LineageFault
rowless rows [] = []
rowless rows (id ∷ ids) = fault_before (not (list_any (is_row_of id) rows)) (NoRow id) (rowless rows ids)

-- the faults of dropped identifiers are those for want of a row among the ones that the release lacks
pub dropped-rowless : (live : List (List ℕ)) (rows : List Row) (ids : List (List ℕ)) → dropped_faults live rows ids ≡ rowless rows (filter (λ id. not (has_id live id)) ids)
dropped-rowless live rows [] = refl
dropped-rowless live rows (x ∷ xs) = by (has_id live x) (dropped_faults live rows xs) (dropped-rowless live rows xs) where
  by : (b : Bool) (d : List LineageFault) → d ≡ rowless rows (filter (λ id. not (has_id live id)) xs)
      → fault_before (not b && not (list_any (is_row_of x) rows)) (NoRow x) d ≡ rowless rows (cond (not b) (x ∷ filter (λ id. not (has_id live id)) xs) (filter (λ id. not (has_id live id)) xs))
  by true d e = e
  by false d e = ap (λ (l : List LineageFault). fault_before (not (list_any (is_row_of x) rows)) (NoRow x) l) e

-- identifiers of the last release are no faults
pub used-lacking : (h : List Entry) (last ids : List (List ℕ)) → used_faults h last ids ≡ used_faults h last (filter (λ id. not (has_id last id)) ids)
used-lacking h last [] = refl
used-lacking h last (x ∷ xs) = by (filter (λ id. not (has_id last id)) xs) (has_id last x) refl (last_held h x) refl (used-lacking h last xs) where
  by : (rest : List (List ℕ)) (b : Bool) → b ≡ has_id last x → (o : Option ℕ) → o ≡ last_held h x
      → used_faults h last xs ≡ used_faults h last rest → used_fault_before o b x (used_faults h last xs) ≡ used_faults h last
      (cond (not b) (x ∷ rest) rest)
  by rest true eb None eo e = e
  by rest true eb (Some y) eo e = e
  by rest false eb o eo e = ap (λ (l : List LineageFault). used_fault_before o false x l) e
      ∙ ap (λ (c : Bool). used_fault_before o c x (used_faults h last rest)) eb
      ∙ ap (λ (p : Option ℕ). used_fault_before p (has_id last x) x (used_faults h last rest)) eo

-- an identifier that no release holds is no fault
pub used-unheld : (h : List Entry) (last : List (List ℕ)) (id : List ℕ) (rest : List (List ℕ)) (span : Option Span)
    → span ≡ span_of h id → is_some span ≡ false → used_faults h last (id ∷ rest) ≡ used_faults h last rest
used-unheld h last id rest None e none = ap (λ (o : Option ℕ). used_fault_before o (has_id last id) id (used_faults h last rest)) (sym (unlive-none h id (sym e)))
used-unheld h last id rest (Some s) e none = absurd cc

-- a list with the same members has no fault either
pub used-alike : (h : List Entry) (last a b : List (List ℕ)) → ((q : List ℕ) → has_id a q ≡ has_id b q) → used_faults h last a ≡ [] → used_faults h last b ≡ []
used-alike h last a b alike none = clean-used h last b (λ id i hi is. used-clean h last a none id i hi (alike id ∙ is))
