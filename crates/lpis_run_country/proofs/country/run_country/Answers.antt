use Rattle.std.proofs.Common.{inl, refl, subst}
use Rattle.std.proofs.lemmas.Result.{err_from_is_err_and}
use Rattle.lpis_run.specs.Folders.{top_by}
use Rattle.lpis_run.specs.Inputs.{top_of}
use Rattle.lpis_run.specs.Stops.{IsRefusedAs}
use Rattle.lpis_run_country.specs.Beginning.{IsUnbegun}
use Rattle.lpis_run_country.proofs.BegunLemmas.{begun_run, begun_untouched, read_run, stopped_before}
use Rattle.lpis_run_country.proofs.country.run_country.Goals as goal

pub returns-in_err-top-clause-runs : goal.returns-in_err-top-clause-runs
returns-in_err-top-clause-runs g c =
    let p = err_from_is_err_and c.from_residual.result c.from_residual.ensures.1 in
    rw (p.1, p.2) (stopped_before (g.G.Regions.texts c.args.regions.now) c.args.detail (top_by g.R.Read.remaining c.args.top.now) (g.W.Write.contents c.args.out.now) _ c.in_err-top.ensures.failure)

pub returns-in-Ok-clause-runs : goal.returns-in-Ok-clause-runs
returns-in-Ok-clause-runs g c =
    let x = top_of c.in_ok-top.top in
    let texts = g.G.Regions.texts c.args.regions.now in
    read_run texts c.args.detail (top_by g.R.Read.remaining c.args.top.now) x _ _ c.run_begun.result c.in_ok-top.ensures.bytes
    (begun_run texts c.args.detail x c.in-Ok.begun c.in-Ok.ensures.begun _ _ c.run_begun.result c.run_begun.ensures)

pub returns-in_err-answer-in-Err-clause-runs : goal.returns-in_err-answer-in-Err-clause-runs
returns-in_err-answer-in-Err-clause-runs g c =
    let p = err_from_is_err_and c.from_residual-in_err-answer-in-Err.result c.from_residual-in_err-answer-in-Err.ensures.1 in
    rw (p.1, p.2) (stopped_before (g.G.Regions.texts c.args.regions.now) c.args.detail (top_by g.R.Read.remaining c.args.top.now) (g.W.Write.contents c.args.out.now) _ (inl (inl refl)))

pub returns-in_ok-answer-in-Err-clause-runs : goal.returns-in_ok-answer-in-Err-clause-runs
returns-in_ok-answer-in-Err-clause-runs g c =
    let x = top_of c.in_ok-top.top in
    let texts = g.G.Regions.texts c.args.regions.now in
    read_run texts c.args.detail (top_by g.R.Read.remaining c.args.top.now) x _ _ c.write_refusal.result c.in_ok-top.ensures.bytes
    (c.write_refusal.ensures texts c.args.detail x (subst (IsRefusedAs (IsUnbegun x)) c.in_ok-answer-in-Err.ensures c.in-Err.ensures.refusal))

pub returns-in-Ok-clause-untouched : goal.returns-in-Ok-clause-untouched
returns-in-Ok-clause-untouched g c =
    let x = top_of c.in_ok-top.top in
    let texts = g.G.Regions.texts c.args.regions.now in
    begun_untouched c.args.top.now c.read_top.new.top texts c.args.detail x _ _ c.run_begun.result
    (begun_run texts c.args.detail x c.in-Ok.begun c.in-Ok.ensures.begun _ _ c.run_begun.result c.run_begun.ensures)

pub returns-in_ok-answer-in-Err-clause-untouched : goal.returns-in_ok-answer-in-Err-clause-untouched
returns-in_ok-answer-in-Err-clause-untouched g c =
    let x = top_of c.in_ok-top.top in
    let texts = g.G.Regions.texts c.args.regions.now in
    begun_untouched c.args.top.now c.read_top.new.top texts c.args.detail x _ _ c.write_refusal.result
    (c.write_refusal.ensures texts c.args.detail x (subst (IsRefusedAs (IsUnbegun x)) c.in_ok-answer-in-Err.ensures c.in-Err.ensures.refusal))
