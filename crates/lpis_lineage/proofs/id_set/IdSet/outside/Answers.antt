use Rattle.std.proofs.Common.{◌≡◌, ◌∙◌, ◌++◌, ◌∷◌, [], sym, ap, subst, append_assoc, true, ℕ, List, All}
use Rattle.std.proofs.lemmas.List.Elements.{All-push}
use Rattle.lpis_tables.specs.Ids.{is_id}
use Rattle.lpis_lineage.proofs.id_set.IdSet.outside.Goals as goal

pub loop-id-preserved : goal.loop-id-preserved
loop-id-preserved c =
    let found = c.loop-id.found.items in
    let rest = c.next.new.self in
    let pushed = c.in_ok-push.ensures.items in (
      ap (λ (l : List (List ℕ)). l ++ rest) (pushed ∙ ap (λ (x : List ℕ). found ++ x ∷ []) c.in_ok-copy.ensures)
          ∙ append_assoc found (c.in-Some.id.now ∷ []) rest ∙ ap (λ (l : List (List ℕ)). found ++ l) (sym c.in-Some.ensures.steps) ∙ c.loop-id.invariant.0,
      subst (λ (l : List (List ℕ)). All (λ id. is_id id ≡ true) l) (sym pushed)
          (All-push (λ id. is_id id ≡ true) found c.in_ok-copy.copy c.loop-id.invariant.1 (ap is_id c.in_ok-copy.ensures ∙ c.as_str.ensures.id)),
    )
