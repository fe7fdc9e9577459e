use Rattle.std.proofs.Common.{◌<◌, ◌≤◌, ◌∙◌, ◌∷◌, [], ap, arith, get_or, length, map, refl, subst, sym}
use Rattle.std.proofs.lemmas.List.{length-map}
use Rattle.std.specs.String.{string_bytes}
use Rattle.lpis_run_country.specs.CountryFailures.{IsStoppedBefore}
use Rattle.lpis_run_country.proofs.Shared.{err_is}
use Rattle.lpis_run_locate.specs.private.Searching.{AfterAny, IsVerdict, setting_at}
use Rattle.lpis_run_locate.proofs.PassingLemmas.{all_passed, begun_here, goes_on, is_refused, is_stopped_at, ready, setting_stays, started}
use Rattle.lpis_run_locate.proofs.searching.judge_regions.Goals as goal

pub loop-index-init : goal.loop-index-init
loop-index-init g c =
    let (table, start) = c.requires in
    let s = setting_at (g.G.Regions.texts c.args.regions.now) c.args.names.now.items c.args.progress.now in
    (refl, λ other searched. begun_here s other c.args.progress.now (started s table other c.args.progress.now start searched))

pub judge_at-requires-clause-inside : goal.judge_at-requires-clause-inside
judge_at-requires-clause-inside g c =
    let long = ap length c.loop-index.invariant.0 in
    omega (arith, long, c.loop-index-test.true, c.len-index-end.ensures)

pub judge_at-requires-clause-ready : goal.judge_at-requires-clause-ready
judge_at-requires-clause-ready g c =
    let (table, start) = c.requires in
    let searched = start.at.sought in
    let texts = g.G.Regions.texts c.args.regions.now in
    let s = setting_at texts c.args.names.now.items c.args.progress.now in
    let here = c.loop-index.invariant.1 table searched in
    let long = length-map c.args.names.now.items string_bytes in
    let lt : c.loop-index.index < length s.names = omega (arith, long, c.loop-index-test.true, c.len-index-end.ensures) in
    ready s table c.args.progress.now c.loop-index.progress c.loop-index.index start here lt

pub returns-in-Some-clause-outcome : goal.returns-in-Some-clause-outcome
returns-in-Some-clause-outcome g c = λ table searched.
    let texts = g.G.Regions.texts c.args.regions.now in
    let s = setting_at texts c.args.names.now.items c.args.progress.now in
    let here = c.loop-index.invariant.1 table searched in
    let long = length-map c.args.names.now.items string_bytes in
    let lt : c.loop-index.index < length s.names = omega (arith, long, c.loop-index-test.true, c.len-index-end.ensures) in
    let stays = setting_stays texts table c.loop-index.names.items c.args.names.now.items c.args.progress.now c.loop-index.progress here.before c.loop-index.invariant.0 here.at in
    let told = subst (λ t. AfterAny t c.loop-index.progress (λ u ls before. IsVerdict u ls before (get_or u.names c.loop-index.index []) c.judge_at.new.progress c.in_ok-answer.field-0)) stays
    c.in_ok-answer.ensures.verdict in
    is_refused s table c.loop-index.progress c.judge_at.new.progress c.loop-index.index c.in-Some.answer here lt
    (subst (λ o. IsVerdict s table here.before (get_or s.names c.loop-index.index []) c.judge_at.new.progress o) c.in-Some.is (told table here.before here.at))

pub returns-in_err-answer-clause-failure : goal.returns-in_err-answer-clause-failure
returns-in_err-answer-clause-failure g c =
    let (table, start) = c.requires in
    let searched = start.at.sought in
    let texts = g.G.Regions.texts c.args.regions.now in
    let s = setting_at texts c.args.names.now.items c.args.progress.now in
    let here = c.loop-index.invariant.1 table searched in
    let long = length-map c.args.names.now.items string_bytes in
    let lt : c.loop-index.index < length s.names = omega (arith, long, c.loop-index-test.true, c.len-index-end.ensures) in
    let same = c.loop-index.invariant.0 in
    err_is c.from_residual.result _ _ c.from_residual.ensures.1 (λ f of. is_stopped_at s table c.loop-index.progress c.loop-index.index f here lt
    (λ left. subst (λ x. IsStoppedBefore texts (get_or s.names c.loop-index.index [] ∷ left) x) (sym of)
    (subst (λ xs. IsStoppedBefore texts (get_or (map string_bytes xs) c.loop-index.index [] ∷ left) c.in_err-answer.field-0.0) same (c.in_err-answer.ensures.failure left))))

pub loop-index-preserved : goal.loop-index-preserved
loop-index-preserved g c = (
  c.in_ok-answer.ensures.names ∙ c.loop-index.invariant.0,
  λ table searched.
      let texts = g.G.Regions.texts c.args.regions.now in
      let s = setting_at texts c.args.names.now.items c.args.progress.now in
      let here = c.loop-index.invariant.1 table searched in
      let long = length-map c.args.names.now.items string_bytes in
      let lt : c.loop-index.index < length s.names = omega (arith, long, c.loop-index-test.true, c.len-index-end.ensures) in
      let stays = setting_stays texts table c.loop-index.names.items c.args.names.now.items c.args.progress.now c.loop-index.progress here.before c.loop-index.invariant.0 here.at in
      let told = subst (λ t. AfterAny t c.loop-index.progress (λ u ls before. IsVerdict u ls before (get_or u.names c.loop-index.index []) c.judge_at.new.progress c.in_ok-answer.field-0)) stays
      c.in_ok-answer.ensures.verdict in
      goes_on s table c.loop-index.progress c.judge_at.new.progress c.loop-index.index here lt
      (subst (λ o. IsVerdict s table here.before (get_or s.names c.loop-index.index []) c.judge_at.new.progress o) c.in-None.is (told table here.before here.at)),
)

pub returns-clause-outcome : goal.returns-clause-outcome
returns-clause-outcome g c = λ table searched.
    let s = setting_at (g.G.Regions.texts c.args.regions.now) c.args.names.now.items c.args.progress.now in
    let long = length-map c.args.names.now.items string_bytes in
    let past : length s.names ≤ c.loop-index.index = omega (arith, long, c.loop-index-test.false, c.len-index-end.ensures) in
    all_passed s table c.loop-index.progress c.loop-index.index (c.loop-index.invariant.1 table searched) past
