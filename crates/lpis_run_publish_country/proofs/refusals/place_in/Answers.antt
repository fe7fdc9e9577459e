use Rattle.std.proofs.Common.{◌∙◌, [], List, ap, arith, length, map, sym}
use Rattle.std.proofs.lemmas.List.{get_or-map, length-map}
use Rattle.std.specs.String.{string_bytes}
use Rattle.lpis_lineage.specs.declared.row.Row.{Row}
use Rattle.lpis_run_publish_country.proofs.PlaceLemmas.{in_both, past_one, place_is, row_behind, row_here, row_nowhere}
use Rattle.lpis_run_publish_country.proofs.refusals.place_in.Goals as goal

pub returns-then-left-counts : goal.returns-then-left-counts
returns-then-left-counts c = λ tables are.
    let names = c.args.names.now in
    let i = c.loop-index.index in
    let inside = in_both i _ (length names) (length c.args.counts.now) c.loop-index-test.true c.min-index-end.ensures in
    let long = length-map names string_bytes in
    let name = c.as_str.ensures.value ∙ ap string_bytes c.index-names-index.is ∙ sym (get_or-map string_bytes names i _ [] inside.0) in
    place_is _ _ _ _ name
    (c.loop-index.invariant tables are ∙ row_here (map string_bytes names) tables c.args.counts.now i c.loop-index.left are (omega (arith, inside.0, long)) inside.1 c.if-left-counts.true)

pub loop-index-preserved : goal.loop-index-preserved
loop-index-preserved c = λ tables are.
    let names = c.args.names.now in
    let i = c.loop-index.index in
    let inside = in_both i _ (length names) (length c.args.counts.now) c.loop-index-test.true c.min-index-end.ensures in
    let long = length-map names string_bytes in
    c.loop-index.invariant tables are ∙ row_behind (map string_bytes names) tables c.args.counts.now i c.loop-index.left are (omega (arith, inside.0, long)) inside.1 c.if-left-counts.false

pub returns : goal.returns
returns c = λ tables are.
    let names = c.args.names.now in
    sym (c.loop-index.invariant tables are ∙ row_nowhere (map string_bytes names) tables c.loop-index.index c.loop-index.left
    (past_one c.loop-index.index _ (length names) (length c.args.counts.now) _ _ c.loop-index-test.false c.min-index-end.ensures
    (length-map names string_bytes) (sym (length-map tables (λ (rows : List Row). length rows)) ∙ sym (ap length are))))
