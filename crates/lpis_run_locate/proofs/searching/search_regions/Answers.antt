use Rattle.std.proofs.Common.{subst, sym}
use Rattle.lpis_country.specs.Country.{country_of}
use Rattle.lpis_run_country.proofs.Shared.{err_is}
use Rattle.lpis_run_locate.specs.declared.progress.Progress.{Progress}
use Rattle.lpis_run_locate.specs.private.Searching.{IsOutcome, IsStopped, IsUnanswered, setting_at}
use Rattle.lpis_run_locate.proofs.CountryLemmas.{all_unite, begins, located, plan_setting, refused_answer, starts, stopped}
use Rattle.lpis_run_locate.proofs.searching.search_regions.Goals as goal

pub judge_regions-requires : goal.judge_regions-requires
judge_regions-requires g c =
    let (table, searched) = c.requires in
    let (names, tiles, classes) = c.into_parts-names.result in
    let parts = c.into_parts-names.ensures in
    let texts = g.G.Regions.texts c.args.regions.now in
    let p : Progress = record { seam = c.new.result; sought = c.args.sought } in
    (table, starts texts table c.args.begun names.items tiles.items classes.items p parts.names parts.tiles parts.planned c.new.ensures searched)

pub returns-in-Some-clause-answer : goal.returns-in-Some-clause-answer
returns-in-Some-clause-answer g c = λ x begun searched.
    let (names, tiles, classes) = c.into_parts-names.result in
    let parts = c.into_parts-names.ensures in
    let texts = g.G.Regions.texts c.args.regions.now in
    let p : Progress = record { seam = c.new.result; sought = c.args.sought } in
    let is = begins texts x c.args.begun begun names.items tiles.items classes.items p parts.names parts.tiles parts.classes c.new.ensures in
    let s = plan_setting texts x c.args.begun begun in
    let told = subst (λ t. IsOutcome t x.points c.judge_regions.new.progress c.in_ok-answer.field-0) is (c.in_ok-answer.ensures.outcome x.points searched) in
    refused_answer texts x c.args.begun begun c.judge_regions.new.progress c.in-Some.answer (subst (λ o. IsOutcome s x.points c.judge_regions.new.progress o) c.in-Some.is told)

pub returns-in_err-answer-clause-failure : goal.returns-in_err-answer-clause-failure
returns-in_err-answer-clause-failure g c = λ x begun searched.
    let (names, tiles, classes) = c.into_parts-names.result in
    let parts = c.into_parts-names.ensures in
    let texts = g.G.Regions.texts c.args.regions.now in
    let p : Progress = record { seam = c.new.result; sought = c.args.sought } in
    let is = begins texts x c.args.begun begun names.items tiles.items classes.items p parts.names parts.tiles parts.classes c.new.ensures in
    let s = plan_setting texts x c.args.begun begun in
    let told = subst (λ t. IsStopped t c.in_err-answer.field-0.0) is c.in_err-answer.ensures.failure in
    err_is c.from_residual.result _ _ c.from_residual.ensures.1 (λ f of. subst (IsUnanswered texts x) (sym of) (stopped texts x c.args.begun begun _ told))

pub report_search-requires : goal.report_search-requires
report_search-requires g c =
    let (table, searched) = c.requires in
    let (names, tiles, classes) = c.into_parts-names.result in
    let parts = c.into_parts-names.ensures in
    let texts = g.G.Regions.texts c.args.regions.now in
    let p : Progress = record { seam = c.new.result; sought = c.args.sought } in
    let s = setting_at texts names.items p in
    let out = subst (λ o. IsOutcome s table c.judge_regions.new.progress o) c.in-None.is (c.in_ok-answer.ensures.outcome table searched) in
    (table, out.0, out.2.sought)

pub returns-clause-answer : goal.returns-clause-answer
returns-clause-answer g c = λ x begun searched.
    let (names, tiles, classes) = c.into_parts-names.result in
    let parts = c.into_parts-names.ensures in
    let texts = g.G.Regions.texts c.args.regions.now in
    let p : Progress = record { seam = c.new.result; sought = c.args.sought } in
    let is = begins texts x c.args.begun begun names.items tiles.items classes.items p parts.names parts.tiles parts.classes c.new.ensures in
    let s = plan_setting texts x c.args.begun begun in
    let told = subst (λ t. IsOutcome t x.points c.judge_regions.new.progress c.in_ok-answer.field-0) is (c.in_ok-answer.ensures.outcome x.points searched) in
    let out = subst (λ o. IsOutcome s x.points c.judge_regions.new.progress o) c.in-None.is told in
    let union = country_of c.args.begun.classes out.0 in
    let unite = all_unite texts x c.args.begun begun c.judge_regions.new.progress c.a_country_of_joined_regions_is_sound.ensures.union out in
    located texts x c.args.begun begun c.judge_regions.new.progress _ c.a_country_of_joined_regions_is_sound.ensures.sound c.a_country_of_joined_regions_is_sound.ensures.union parts.planned out
    (c.in_ok-report_search-in-None.ensures x.points out.0 union out.2.sought unite)
