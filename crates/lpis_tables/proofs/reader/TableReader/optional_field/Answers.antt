use Rattle.std.proofs.Common.{◌≡◌, ◌∙◌, ap, get_or, refl, sym, List, None, Option, Some, ℕ, Bor}
use Rattle.lpis_tables.proofs.Common.{fields_of, Reading, field_at_place}
use Rattle.lpis_tables.specs.Table.{optional_field}
use Rattle.lpis_tables.proofs.ColumnLemmas.{field-or}
use Rattle.lpis_tables.proofs.ReadingLemmas.{field-at}
use Rattle.lpis_tables.proofs.reader.TableReader.optional_field.Goals as goal

pub returns-in-Some : goal.returns-in-Some
returns-in-Some c =
    let fields = fields_of c.self.inside.current in
    let field = ap (λ (x : Bor (List ℕ)). x.now) c.unwrap_or.ensures ∙ field-or fields c.in-Some.index c.get.result _ refl c.get.ensures.value in
    let place : get_or c.self.inside.places.items c.args.k None ≡ Some c.in-Some.index =
    sym (ap (λ (ps : List (Option ℕ)). get_or ps c.args.k None) c.deref.ensures.value) ∙ sym c.place_at.ensures ∙ c.in-Some.is in
    ap Some field ∙ sym (ap (field_at_place fields) place) ∙ sym (field-at c.self.inside.places.items fields c.args.k)
    ∙ ap (λ (r : Reading). optional_field r.row c.args.k) c.self.view_is

pub returns-in-None : goal.returns-in-None
returns-in-None c =
    let fields = fields_of c.self.inside.current in
    let place : get_or c.self.inside.places.items c.args.k None ≡ None =
    sym (ap (λ (ps : List (Option ℕ)). get_or ps c.args.k None) c.deref.ensures.value) ∙ sym c.place_at.ensures ∙ c.in-None.is in
    sym (ap (field_at_place fields) place) ∙ sym (field-at c.self.inside.places.items fields c.args.k)
    ∙ ap (λ (r : Reading). optional_field r.row c.args.k) c.self.view_is
