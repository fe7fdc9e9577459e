use Rattle.std.proofs.Common.{◌≡◌, ◌∙◌, ap, refl, sym, true, Bool, List, Some, ℕ, Bor}
use Rattle.lpis_tables.proofs.Common.{fields_of}
use Rattle.lpis_tables.specs.Table.{has_column}
use Rattle.lpis_tables.proofs.ColumnLemmas.{field-or}
use Rattle.lpis_tables.proofs.rows.Rows.optional_field.Goals as goal

pub returns-then-is_there : goal.returns-then-is_there
returns-then-is_there c =
    let there : has_column c.args.self.now.has c.args.k ≡ true =
    sym (ap (λ (h : List Bool). has_column h c.args.k) c.as_slice.ensures) ∙ sym c.is_there.ensures ∙ c.if-is_there.true in
    let field = ap (λ (x : Bor (List ℕ)). x.now) c.unwrap_or.ensures ∙ field-or (fields_of c.args.row.now) c.args.k c.get.result _ refl c.get.ensures.value in
    rw there (ap Some field)
