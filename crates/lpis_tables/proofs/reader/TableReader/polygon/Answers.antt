use Rattle.std.proofs.Common.{◌∙◌, List, ℕ, subst, sym, IsUtf8}
use Rattle.lpis_tables.proofs.Common.{polygon_in, field_of}
use Rattle.lpis_tables.proofs.PolygonLemmas.{field-no-polygon, field-no-text, field-polygon}
use Rattle.lpis_tables.proofs.reader.TableReader.polygon.Goals as goal

pub returns-in_default : goal.returns-in_default
returns-in_default c =
    let field = field_of c.args.self.now.row c.args.k in
    rw c.fault.ensures (field-no-text c.args.self.now.table c.args.self.now.number field c.field.result.now (polygon_in field) c.field.ensures c.in_default.ensures.cases.0)

pub returns-in-Ok-read : goal.returns-in-Ok-read
returns-in-Ok-read c =
    let field = field_of c.args.self.now.row c.args.k in
    let (same, utf8) = c.in-Ok.ensures.cases in
    field-polygon c.args.self.now.table c.args.self.now.number field c.in-Ok.text.now c.in-Ok-read.polygon (same ∙ c.field.ensures)
    (subst (λ (bs : List ℕ). IsUtf8 bs) (sym same) utf8) c.in-Ok-read.ensures.gives

pub returns-in-Err-At : goal.returns-in-Err-At
returns-in-Err-At c =
    let field = field_of c.args.self.now.row c.args.k in
    let (same, utf8) = c.in-Ok.ensures.cases in
    rw c.geometry_fault.ensures (field-no-polygon c.args.self.now.table c.args.self.now.number field c.in-Ok.text.now (polygon_in field) c.in-Err-At.code c.in-Err-At.offset (same ∙ c.field.ensures)
    (subst (λ (bs : List ℕ). IsUtf8 bs) (sym same) utf8) (rw c.in-Err-At.field-0-is at c.in-Err-At.ensures.gives))
