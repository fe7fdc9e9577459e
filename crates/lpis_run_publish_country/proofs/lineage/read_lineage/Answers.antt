use Rattle.std.proofs.Common.{◌<◌, ◌≤◌, ◌∙◌, [], ap, arith, get_or, length, map, refl}
use Rattle.std.proofs.lemmas.List.{length-map}
use Rattle.std.specs.String.{string_bytes}
use Rattle.lpis_run_publish_country.specs.private.Preparing.{AreTablesRefused, AreTablesUnread}
use Rattle.lpis_run_publish_country.proofs.LineageLemmas.{all_read, goes_on, is_unprepared, next_name, no_table}
use Rattle.lpis_run_publish_country.proofs.UnpreparedLemmas.{same_handed}
use Rattle.lpis_run_publish_country.proofs.lineage.read_lineage.Goals as goal

pub loop-index-init : goal.loop-index-init
loop-index-init g c = (refl, no_table (g.L.Lineages.lineages c.args.lineages.now) (map string_bytes c.args.names.now.items) c.none-lineage.result c.none-lineage.ensures)

pub add_table-requires : goal.add_table-requires
add_table-requires g c =
    let long = ap length c.loop-index.invariant.0 in
    omega (arith, long, c.loop-index-test.true, c.len-index-end.ensures)

pub returns-in_err-add_table-clause-unprepared : goal.returns-in_err-add_table-clause-unprepared
returns-in_err-add_table-clause-unprepared g c =
    let told = g.L.Lineages.lineages c.args.lineages.now in
    let names = map string_bytes c.args.names.now.items in
    let name = get_or (map string_bytes c.loop-index.names.items) c.loop-index.index [] in
    let inside : c.loop-index.index < length c.args.names.now.items = omega (arith, c.loop-index-test.true, c.len-index-end.ensures) in
    let next = next_name string_bytes c.loop-index.names.items c.args.names.now.items c.loop-index.index c.loop-index.invariant.0 inside in
    same_handed (AreTablesUnread told names) (AreTablesRefused told names) c.from_residual.result _ c.from_residual.ensures.1
    (is_unprepared told names c.loop-index.index name c.loop-index.lineage _ next.0 next.1 c.loop-index.invariant.1 c.in_err-add_table.ensures.unprepared)

pub loop-index-preserved : goal.loop-index-preserved
loop-index-preserved g c =
    let told = g.L.Lineages.lineages c.args.lineages.now in
    let names = map string_bytes c.args.names.now.items in
    let name = get_or (map string_bytes c.loop-index.names.items) c.loop-index.index [] in
    let inside : c.loop-index.index < length c.args.names.now.items = omega (arith, c.loop-index-test.true, c.len-index-end.ensures) in
    let next = next_name string_bytes c.loop-index.names.items c.args.names.now.items c.loop-index.index c.loop-index.invariant.0 inside in (
      c.in_ok-add_table.ensures.names ∙ c.loop-index.invariant.0,
      goes_on told names c.loop-index.index name c.loop-index.lineage c.add_table.new.lineage next.0 next.1 c.loop-index.invariant.1 c.in_ok-add_table.ensures.rows,
    )

pub returns-clause-rows : goal.returns-clause-rows
returns-clause-rows g c =
    let long = length-map c.args.names.now.items string_bytes in
    let names = map string_bytes c.args.names.now.items in
    let past : length names ≤ c.loop-index.index = omega (arith, long, c.loop-index-test.false, c.len-index-end.ensures) in
    all_read (g.L.Lineages.lineages c.args.lineages.now) names c.loop-index.index c.loop-index.lineage past c.loop-index.invariant.1
