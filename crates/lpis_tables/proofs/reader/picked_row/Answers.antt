use Rattle.std.proofs.Common.{◌∙◌, ◌+◌, ◌++◌, ◌∷◌, [], ℕ, List, drop, ap}
use Rattle.lpis_tables.proofs.Common.{fields_of, flat, picked}
use Rattle.lpis_tables.proofs.ColumnLemmas.{picked-more}
use Rattle.lpis_tables.proofs.reader.picked_row.Goals as goal

pub loop-place-preserved : goal.loop-place-preserved
loop-place-preserved c =
    let inv = c.loop-place.invariant in
    let e = rw c.in_ok-push_field.was at c.push_field.ensures.fields in
    let after = rw c.in_ok-push_field.was at c.push_field.ensures.partial in
    let piece = ap (λ (x : List ℕ). x ++ c.field_at.result.now) inv.1 ∙ c.field_at.ensures in
    let whole = e ∙ ap (λ (x : List ℕ). fields_of c.loop-place.wanted ++ (x ∷ [])) piece in (
      ap (λ (x : List (List ℕ)). x ++ flat (picked (drop (c.loop-place.place-index + 1) c.args.places.now) (fields_of c.args.row.now))) whole
          ∙ picked-more (fields_of c.loop-place.wanted) c.args.places.now c.loop-place.place-index _ (fields_of c.args.row.now) c.loop-place-test.true ∙ inv.0,
      after,
    )
