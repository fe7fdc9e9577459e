use Rattle.std.proofs.Common.{◌≡◌, ◌<◌, ◌∙◌, [], ap, arith, get_or, length, refl, subst, sym}
use Rattle.std.proofs.lemmas.List.{length-map}
use Rattle.std.specs.String.{string_bytes}
use Rattle.lpis_run_country.specs.RegionsOutcome.{RegionsStop}
use Rattle.lpis_run_country.specs.private.Progressing.{AfterAny, IsBrokenOff, IsWritten, setting_at}
use Rattle.lpis_run_country.proofs.RunLemmas.{begun_here, breaks_off, err_is, goes_on, has_passed_all, is_refused, ready, setting_stays}
use Rattle.lpis_run_country.proofs.passing.pass_regions.Goals as goal

pub loop-index-init : goal.loop-index-init
loop-index-init g c =
    let s = setting_at (g.G.Regions.texts c.args.regions.now) c.args.detail c.args.names.now.items c.args.progress.now in
    (refl, refl, begun_here s c.args.progress.now (g.W.Write.contents c.args.out.now) c.requires)

pub pass_at-requires-clause-inside : goal.pass_at-requires-clause-inside
pass_at-requires-clause-inside g c =
    let long = ap length c.loop-index.invariant.0 in
    omega (arith, long, c.loop-index-test.true, c.len-index-end.ensures)

pub pass_at-requires-clause-ready : goal.pass_at-requires-clause-ready
pass_at-requires-clause-ready g c =
    let s = setting_at (g.G.Regions.texts c.args.regions.now) c.args.detail c.args.names.now.items c.args.progress.now in
    let long = length-map c.args.names.now.items string_bytes in
    let lt : c.loop-index.index < length s.names = omega (arith, long, c.loop-index-test.true, c.len-index-end.ensures) in
    ready s _ c.loop-index.progress c.loop-index.index _ _ c.requires c.loop-index.invariant.2 lt

pub returns-in-Some-clause-passed : goal.returns-in-Some-clause-passed
returns-in-Some-clause-passed g c =
    let texts = g.G.Regions.texts c.args.regions.now in
    let s = setting_at texts c.args.detail c.args.names.now.items c.args.progress.now in
    let here = c.loop-index.invariant.2 in
    let old = g.W.Write.contents c.loop-index.out in
    let now = g.W.Write.contents c.pass_at.new.out in
    let long = length-map c.args.names.now.items string_bytes in
    let lt : c.loop-index.index < length s.names = omega (arith, long, c.loop-index-test.true, c.len-index-end.ensures) in
    let stays = setting_stays texts c.args.detail c.loop-index.names.items c.args.names.now.items c.args.progress.now c.loop-index.progress here.before c.loop-index.invariant.0 here.at in
    let told = subst (λ t. AfterAny t c.loop-index.progress (λ u before. IsWritten u before (get_or u.names c.loop-index.index []) c.pass_at.new.progress old now c.in_ok-status.field-0)) stays
    c.in_ok-status.ensures.written in
    is_refused s c.loop-index.progress c.pass_at.new.progress c.loop-index.index c.in-Some.status _ _ _ here lt
    (subst (λ o. IsWritten s here.before (get_or s.names c.loop-index.index []) c.pass_at.new.progress old now o) c.in-Some.is (told here.before here.at))

pub returns-in_err-status-clause-failure : goal.returns-in_err-status-clause-failure
returns-in_err-status-clause-failure g c =
    let texts = g.G.Regions.texts c.args.regions.now in
    let s = setting_at texts c.args.detail c.args.names.now.items c.args.progress.now in
    let here = c.loop-index.invariant.2 in
    let old = g.W.Write.contents c.loop-index.out in
    let now = g.W.Write.contents c.pass_at.new.out in
    let long = length-map c.args.names.now.items string_bytes in
    let lt : c.loop-index.index < length s.names = omega (arith, long, c.loop-index-test.true, c.len-index-end.ensures) in
    let stays = setting_stays texts c.args.detail c.loop-index.names.items c.args.names.now.items c.args.progress.now c.loop-index.progress here.before c.loop-index.invariant.0 here.at in
    let told = subst (λ t. AfterAny t c.loop-index.progress (λ u before. IsBrokenOff u before (get_or u.names c.loop-index.index []) old now c.in_err-status.field-0.0)) stays
    c.in_err-status.ensures.failure in
    err_is c.from_residual.result _ _ c.from_residual.ensures.1
    (λ f of. subst (RegionsStop s _ _) (sym of) (breaks_off s c.loop-index.progress c.loop-index.index _ _ _ _ here lt (told here.before here.at)))

pub loop-index-preserved : goal.loop-index-preserved
loop-index-preserved g c =
    let texts = g.G.Regions.texts c.args.regions.now in
    let s = setting_at texts c.args.detail c.args.names.now.items c.args.progress.now in
    let here = c.loop-index.invariant.2 in
    let old = g.W.Write.contents c.loop-index.out in
    let now = g.W.Write.contents c.pass_at.new.out in
    let long = length-map c.args.names.now.items string_bytes in
    let lt : c.loop-index.index < length s.names = omega (arith, long, c.loop-index-test.true, c.len-index-end.ensures) in
    let stays = setting_stays texts c.args.detail c.loop-index.names.items c.args.names.now.items c.args.progress.now c.loop-index.progress here.before c.loop-index.invariant.0 here.at in
    let told = subst (λ t. AfterAny t c.loop-index.progress (λ u before. IsWritten u before (get_or u.names c.loop-index.index []) c.pass_at.new.progress old now c.in_ok-status.field-0)) stays
    c.in_ok-status.ensures.written in (
      c.in_ok-status.ensures.names ∙ c.loop-index.invariant.0,
      c.pass_at.ensures.wanted ∙ c.loop-index.invariant.1,
      goes_on s c.loop-index.progress c.pass_at.new.progress c.loop-index.index _ _ _ here lt
          (subst (λ o. IsWritten s here.before (get_or s.names c.loop-index.index []) c.pass_at.new.progress old now o) c.in-None.is (told here.before here.at)),
    )

pub returns-clause-passed : goal.returns-clause-passed
returns-clause-passed g c =
    let s = setting_at (g.G.Regions.texts c.args.regions.now) c.args.detail c.args.names.now.items c.args.progress.now in
    let long = length-map c.args.names.now.items string_bytes in
    let all : c.loop-index.index ≡ length s.names = omega (arith, long, c.loop-index-test.false, c.loop-index.auto.index-end, c.len-index-end.ensures) in
    has_passed_all s c.loop-index.progress c.loop-index.index _ _ c.loop-index.invariant.2 all
