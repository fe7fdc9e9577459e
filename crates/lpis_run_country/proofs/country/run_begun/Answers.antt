use Rattle.std.proofs.Common.{◌≡◌, ap, arith, length, subst}
use Rattle.std.proofs.lemmas.List.{length-map}
use Rattle.std.proofs.lemmas.Result.{err_from_is_err_and}
use Rattle.std.specs.String.{string_bytes}
use Rattle.lpis_run_country.specs.Beginning.{setting_in}
use Rattle.lpis_run_country.specs.private.Progressing.{HasPassedAll, RegionsPass}
use Rattle.lpis_run_country.proofs.RunLemmas.{all_join, all_number, all_printable, last_are, refused_run, stopped_run, whole_run}
use Rattle.lpis_run_country.proofs.country.run_begun.Goals as goal

pub returns-in_err-passing : goal.returns-in_err-passing
returns-in_err-passing g c =
    let s = setting_in (g.G.Regions.texts c.args.regions.now) c.args.detail c.args.begun in
    let e = err_from_is_err_and c.from_residual.result c.from_residual.ensures.1 in
    rw (e.1, e.2) (stopped_run s _ _ _ c.in_err-passing.ensures.failure)

pub returns-in-Some : goal.returns-in-Some
returns-in-Some g c =
    let s = setting_in (g.G.Regions.texts c.args.regions.now) c.args.detail c.args.begun in
    let old = g.W.Write.contents c.args.out.now in
    let now = g.W.Write.contents c.pass_begun.new.out in
    let h = subst (RegionsPass s c.in_ok-passing.passing.progress old now) c.in-Some.is c.in_ok-passing.ensures.passed in
    refused_run s old now _ h.0 h.1

pub finish-requires : goal.finish-requires
finish-requires g c =
    let s = setting_in (g.G.Regions.texts c.args.regions.now) c.args.detail c.args.begun in
    let p = c.in_ok-passing.passing.progress in
    let old = g.W.Write.contents c.args.out.now in
    let now = g.W.Write.contents c.pass_begun.new.out in
    let h : HasPassedAll s p old now = subst (RegionsPass s p old now) c.in-None.is c.in_ok-passing.ensures.passed in
    all_printable s h.regions p (length s.names) h.at (all_number s p old now h) c.pass_begun.ensures.planned.few

pub returns : goal.returns
returns g c =
    let s = setting_in (g.G.Regions.texts c.args.regions.now) c.args.detail c.args.begun in
    let p = c.in_ok-passing.passing.progress in
    let old = g.W.Write.contents c.args.out.now in
    let now = g.W.Write.contents c.pass_begun.new.out in
    let h : HasPassedAll s p old now = subst (RegionsPass s p old now) c.in-None.is c.in_ok-passing.ensures.passed in
    let long = length-map c.in_ok-passing.passing.names.items string_bytes in
    let same = ap length c.in_ok-passing.ensures.names in
    let count : c.len.result ≡ length h.regions = omega (arith, c.len.ensures, same, long, all_number s p old now h) in
    let laws = c.a_country_of_joined_regions_is_sound.ensures in
    let join = all_join s p old now laws.sound laws.union c.pass_begun.ensures.planned h in
    whole_run s p old now _ c.finish.result _ h join (last_are s h.regions p c.len.result h.at count) c.finish.ensures.finished c.finish.ensures.failure
