use Rattle.std.proofs.Common.{◌∙◌, [], ap, refl, sym, unwrap_or, List, Option, ℕ, Bor}
use Rattle.lpis_tables.proofs.Common.{fields_of, field_at_place}
use Rattle.lpis_tables.proofs.ColumnLemmas.{field-or}
use Rattle.lpis_tables.proofs.reader.field_at.Goals as goal

pub returns-in-Some : goal.returns-in-Some
returns-in-Some c =
    let fields = fields_of c.args.row.now in
    ap (λ (x : Bor (List ℕ)). x.now) c.unwrap_or.ensures ∙ field-or fields c.in-Some.index c.get.result _ refl c.get.ensures.value
    ∙ sym (ap (λ (o : Option ℕ). unwrap_or (field_at_place fields o) []) c.in-Some.is)
