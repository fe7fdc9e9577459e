use Rattle.std.proofs.Common.{length, subst}
use Rattle.std.proofs.lemmas.Result.{err_from_is_err_and}
use Rattle.lpis_run_country.specs.Beginning.{setting_in}
use Rattle.lpis_run_country.specs.private.Progressing.{HasPassedAll, RegionsPass}
use Rattle.lpis_run_country.proofs.JoiningLemmas.{ended, joins_all, joins_broken, joins_not}
use Rattle.lpis_run_country.proofs.RunLemmas.{all_number, all_printable}
use Rattle.lpis_run_country.proofs.joining.join_regions.Goals as goal

pub returns-in_err-passing : goal.returns-in_err-passing
returns-in_err-passing g c =
    let s = setting_in (g.G.Regions.texts c.args.regions.now) c.args.detail c.args.begun in
    let e = err_from_is_err_and c.from_residual.result c.from_residual.ensures.1 in
    rw (e.1, e.2) (joins_broken s _ _ _ c.in_err-passing.ensures.failure)

pub returns-in-Some : goal.returns-in-Some
returns-in-Some g c =
    let s = setting_in (g.G.Regions.texts c.args.regions.now) c.args.detail c.args.begun in
    let old = g.W.Write.contents c.args.out.now in
    let now = g.W.Write.contents c.pass_begun.new.out in
    record { joins = subst (RegionsPass s c.in_ok-passing.passing.progress old now) c.in-Some.is c.in_ok-passing.ensures.passed; failure = tt }

pub end-requires-clause-printable : goal.end-requires-clause-printable
end-requires-clause-printable g c =
    let s = setting_in (g.G.Regions.texts c.args.regions.now) c.args.detail c.args.begun in
    let p = c.in_ok-passing.passing.progress in
    let old = g.W.Write.contents c.args.out.now in
    let now = g.W.Write.contents c.pass_begun.new.out in
    let h : HasPassedAll s p old now = subst (RegionsPass s p old now) c.in-None.is c.in_ok-passing.ensures.passed in
    all_printable s h.regions p (length s.names) h.at (all_number s p old now h) c.pass_begun.ensures.planned.few

pub end-requires-clause-ended : goal.end-requires-clause-ended
end-requires-clause-ended g c =
    let s = setting_in (g.G.Regions.texts c.args.regions.now) c.args.detail c.args.begun in
    let p = c.in_ok-passing.passing.progress in
    let old = g.W.Write.contents c.args.out.now in
    let now = g.W.Write.contents c.pass_begun.new.out in
    let h : HasPassedAll s p old now = subst (RegionsPass s p old now) c.in-None.is c.in_ok-passing.ensures.passed in
    ended s p old now c.pass_begun.ensures.planned h c.in_ok-passing.ensures.wanted

pub returns-in_err-end-in-None : goal.returns-in_err-end-in-None
returns-in_err-end-in-None g c =
    let s = setting_in (g.G.Regions.texts c.args.regions.now) c.args.detail c.args.begun in
    let p = c.in_ok-passing.passing.progress in
    let old = g.W.Write.contents c.args.out.now in
    let now = g.W.Write.contents c.pass_begun.new.out in
    let h : HasPassedAll s p old now = subst (RegionsPass s p old now) c.in-None.is c.in_ok-passing.ensures.passed in
    let e = err_from_is_err_and c.from_residual-in_err-end-in-None.result c.from_residual-in_err-end-in-None.ensures.1 in
    rw (e.1) (joins_not s p old now _ h e.2)

pub returns-in_ok-end-in-None : goal.returns-in_ok-end-in-None
returns-in_ok-end-in-None g c =
    let s = setting_in (g.G.Regions.texts c.args.regions.now) c.args.detail c.args.begun in
    let passing = c.in_ok-passing.passing in
    let old = g.W.Write.contents c.args.out.now in
    let now = g.W.Write.contents c.pass_begun.new.out in
    let h : HasPassedAll s passing.progress old now = subst (RegionsPass s passing.progress old now) c.in-None.is c.in_ok-passing.ensures.passed in
    let end = c.in_ok-end-in-None in
    let laws = c.a_country_of_joined_regions_is_sound.ensures in
    joins_all s passing.progress old now passing.names end.field-0 laws.sound laws.union c.pass_begun.ensures.planned h c.in_ok-passing.ensures.wanted c.in_ok-passing.ensures.names
    end.ensures.names end.ensures.parcels end.ensures.text
