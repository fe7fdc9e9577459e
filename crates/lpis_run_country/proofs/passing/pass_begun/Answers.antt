use Rattle.std.proofs.Common.{◌∙◌, ap, map, subst, sym}
use Rattle.std.specs.String.{string_bytes}
use Rattle.lpis_run_country.specs.RegionsOutcome.{RegionsStop}
use Rattle.lpis_run_country.specs.declared.progress.Progress.{Progress}
use Rattle.lpis_run_country.specs.private.Progressing.{RegionsPass}
use Rattle.lpis_run_country.proofs.RunLemmas.{err_is, setting_begins, starts}
use Rattle.lpis_run_country.proofs.passing.pass_begun.Goals as goal

pub pass_regions-requires : goal.pass_regions-requires
pass_regions-requires g c =
    let (names, tiles, classes) = c.into_parts-names.result in
    let parts = c.into_parts-names.ensures in
    let p : Progress = record { seam = c.new.result; totals = c.none.result; gathered = c.args.gathered } in
    starts (g.G.Regions.texts c.args.regions.now) c.args.detail c.args.begun names.items tiles.items classes.items p parts.names parts.tiles parts.planned c.new.ensures c.none.ensures c.requires

pub returns-in_err-refused-clause-failure : goal.returns-in_err-refused-clause-failure
returns-in_err-refused-clause-failure g c =
    let (names, tiles, classes) = c.into_parts-names.result in
    let parts = c.into_parts-names.ensures in
    let p : Progress = record { seam = c.new.result; totals = c.none.result; gathered = c.args.gathered } in
    let is = setting_begins (g.G.Regions.texts c.args.regions.now) c.args.detail c.args.begun names.items tiles.items classes.items p parts.names parts.tiles parts.classes c.new.ensures in
    let old = g.W.Write.contents c.args.out.now in
    let now = g.W.Write.contents c.pass_regions.new.out in
    err_is c.from_residual.result _ _ c.from_residual.ensures.1
    (λ f of. subst (RegionsStop _ old now) (sym of) (subst (λ s. RegionsStop s old now c.in_err-refused.field-0.0) is c.in_err-refused.ensures.failure))

pub returns-clause-passed : goal.returns-clause-passed
returns-clause-passed g c =
    let (names, tiles, classes) = c.into_parts-names.result in
    let parts = c.into_parts-names.ensures in
    let p : Progress = record { seam = c.new.result; totals = c.none.result; gathered = c.args.gathered } in
    let is = setting_begins (g.G.Regions.texts c.args.regions.now) c.args.detail c.args.begun names.items tiles.items classes.items p parts.names parts.tiles parts.classes c.new.ensures in
    let old = g.W.Write.contents c.args.out.now in
    let now = g.W.Write.contents c.pass_regions.new.out in
    subst (λ s. RegionsPass s c.pass_regions.new.progress old now c.in_ok-refused.refused) is c.in_ok-refused.ensures.passed

pub returns-clause-names : goal.returns-clause-names
returns-clause-names g c = ap (λ xs. map string_bytes xs) c.in_ok-refused.ensures.names ∙ c.into_parts-names.ensures.names
