use Rattle.std.proofs.Common.{◌<◌, ◌∙◌, ◌≡◌, [], ap, get_or, inl, length, map, refl, subst, sym}
use Rattle.std.proofs.lemmas.List.{get_or-map}
use Rattle.std.specs.String.{string_bytes}
use Rattle.lpis_run_publish_country.specs.CountryLineage.{IsTableRefused, IsUnreadTable}
use Rattle.lpis_run_publish_country.proofs.LineageLemmas.{table_refused}
use Rattle.lpis_run_publish_country.proofs.UnpreparedLemmas.{failure_handed, memory_handed, stop_handed}
use Rattle.lpis_run_publish_country.proofs.lineage.add_table.Goals as goal

pub returns-in_err-table-clause-unprepared : goal.returns-in_err-table-clause-unprepared
returns-in_err-table-clause-unprepared g c =
    let name = get_or (map string_bytes c.args.names.now.items) c.args.index [] in
    failure_handed (IsUnreadTable name) (IsTableRefused (g.L.Lineages.lineages c.args.lineages.now) name) c.from_residual.result _ c.from_residual.ensures.1 c.in_err-table.ensures.failure

pub returns-in_err-rows-clause-unprepared : goal.returns-in_err-rows-clause-unprepared
returns-in_err-rows-clause-unprepared g c =
    let told = g.L.Lineages.lineages c.args.lineages.now in
    let name = get_or (map string_bytes c.args.names.now.items) c.args.index [] in
    let there = c.in_ok-table.ensures.names in
    let inside = subst (λ xs. c.args.index < length xs) (sym there) c.requires.inside in
    let is : c.as_str.result.now ≡ name = c.as_str.ensures.value ∙ ap string_bytes c.index.ensures
    ∙ sym (get_or-map string_bytes c.read_table_at.new.names.items c.args.index _ [] inside) ∙ ap (λ xs. get_or (map string_bytes xs) c.args.index []) there in
    stop_handed (IsUnreadTable name) (IsTableRefused told name) c.from_residual-in_err-rows.result _ c.from_residual-in_err-rows.ensures.1 (inl refl)
    (table_refused told name c.as_str.result.now c.in_ok-table.table.items _ is c.in_ok-table.ensures.bytes c.in_err-rows.ensures.refused)

pub returns-in_err-add-clause-unprepared : goal.returns-in_err-add-clause-unprepared
returns-in_err-add-clause-unprepared g c =
    let name = get_or (map string_bytes c.args.names.now.items) c.args.index [] in
    memory_handed (IsUnreadTable name) (IsTableRefused (g.L.Lineages.lineages c.args.lineages.now) name) c.from_residual-in_err-add.result c.from_residual-in_err-add.ensures.1 (inl refl)
