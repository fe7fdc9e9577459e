use Rattle.std.proofs.Common.{◌≡◌, SFits, rules, w64}
use Rattle.std.specs.Prelude.{string_bytes}
use Rattle.std.proofs.lemmas.Int.{to_z-of_z}
use Rattle.lpis_register_sql.proofs.moving.insert_whole_span.Goals as goal

pub returns-clause-makes : goal.returns-clause-makes
returns-clause-makes g c =
    let since_fits : SFits w64 c.span.inside.since = search rules in
    let until_fits : SFits w64 c.span.inside.until = search rules in
    let since = to_z-of_z w64 c.span.inside.since since_fits in
    let until = to_z-of_z w64 c.span.inside.until until_fits in
    let id : string_bytes c.span.inside.id ≡ c.as_str.result.now = search rules in
    rw (← c.span.view_is, id) (rw (since, until) at c.insert_span_at.ensures.makes)
