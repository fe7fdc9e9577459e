use Rattle.std.proofs.Common.{◌<◌, ◌∙◌, ◌∷◌, [], Some, ap, get_or, length, map, subst, sym}
use Rattle.std.proofs.lemmas.List.{get_or-map}
use Rattle.std.specs.String.{string_bytes}
use Rattle.lpis_run_country.specs.Regions.{IsFolderRead}
use Rattle.lpis_run.specs.Inputs.{inputs_of}
use Rattle.lpis_run.specs.Stops.{IsRefusedAs}
use Rattle.lpis_run_country.specs.CountryAnswer.{IsRefusedRegion}
use Rattle.lpis_run_country.specs.CountryFailures.{IsStoppedBefore}
use Rattle.lpis_run_country.proofs.Shared.{err_is}
use Rattle.lpis_run_locate.specs.private.Searching.{AfterAny, HasPassed, IsVerdict, setting_at}
use Rattle.lpis_run_locate.proofs.PassingLemmas.{stopped_with}
use Rattle.lpis_run_locate.proofs.searching.judge_at.Goals as goal

pub returns-in_err-inputs-clause-failure : goal.returns-in_err-inputs-clause-failure
returns-in_err-inputs-clause-failure g c = λ left.
    let name = get_or (map string_bytes c.args.names.now.items) c.args.index [] in
    err_is c.from_residual.result _ _ c.from_residual.ensures.1
    (λ f of. subst (λ x. IsStoppedBefore (g.G.Regions.texts c.args.regions.now) (name ∷ left) x) (sym of) (c.in_err-inputs.ensures.failure left))

pub returns-in-Ok-clause-verdict : goal.returns-in-Ok-clause-verdict
returns-in-Ok-clause-verdict g c = λ table before at.
    let texts = g.G.Regions.texts c.args.regions.now in
    let there = c.in_ok-inputs.ensures.names in
    let inside = subst (λ xs. c.args.index < length xs) (sym there) c.requires.inside in
    let same = c.as_slice.ensures.value ∙ there in
    let is = c.as_str.ensures.value ∙ ap string_bytes c.index.ensures ∙ sym (get_or-map string_bytes c.read_region.new.names.items c.args.index _ [] inside)
    ∙ ap (λ xs. get_or (map string_bytes xs) c.args.index []) there in
    let told = subst (λ name. IsFolderRead (inputs_of c.in_ok-inputs.inputs) (texts name)) (sym is) c.in_ok-inputs.ensures.bytes in
    let s = setting_at texts c.args.names.now.items c.args.progress.now in
    let passed = subst (λ xs. AfterAny (setting_at texts xs c.args.progress.now) c.args.progress.now (λ u ls rs. HasPassed u ls rs c.as_str.result.now c.judge_inputs-verdict.new.progress)) same
    (c.in-Ok.ensures.passed texts told) in
    subst (λ name. HasPassed s table before name c.judge_inputs-verdict.new.progress) is (passed table before at)

pub returns-in_ok-into_answer-in-Err-clause-verdict : goal.returns-in_ok-into_answer-in-Err-clause-verdict
returns-in_ok-into_answer-in-Err-clause-verdict g c = λ table before at.
    let texts = g.G.Regions.texts c.args.regions.now in
    let there = c.in_ok-inputs.ensures.names in
    let inside = subst (λ xs. c.args.index < length xs) (sym there) c.requires.inside in
    let same = c.as_slice.ensures.value ∙ there in
    let is = c.as_str.ensures.value ∙ ap string_bytes c.index.ensures ∙ sym (get_or-map string_bytes c.read_region.new.names.items c.args.index _ [] inside)
    ∙ ap (λ xs. get_or (map string_bytes xs) c.args.index []) there in
    let told = subst (λ name. IsFolderRead (inputs_of c.in_ok-inputs.inputs) (texts name)) (sym is) c.in_ok-inputs.ensures.bytes in
    let s = setting_at texts c.args.names.now.items c.args.progress.now in
    let refused = subst (λ xs. AfterAny (setting_at texts xs c.args.progress.now) c.args.progress.now (λ u ls rs. IsRefusedAs (IsRefusedRegion u rs c.as_str.result.now) c.in-Err.stop)) same
    (c.in-Err.ensures.refused texts told) in
    subst (λ name. IsVerdict s table before name c.judge_inputs-verdict.new.progress (Some c.in_ok-into_answer-in-Err.field-0)) is
    (stopped_with s before c.as_str.result.now c.in-Err.stop c.in_ok-into_answer-in-Err.field-0 c.in_ok-into_answer-in-Err.ensures (refused table before at))
