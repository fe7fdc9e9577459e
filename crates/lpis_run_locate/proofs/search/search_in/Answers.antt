use Rattle.std.proofs.Common.{ap, arith, length, subst}
use Rattle.std.proofs.lemmas.Result.{on_ok_weaker}
use Rattle.lpis_run_locate.specs.private.Found.{IsSearched}
use Rattle.lpis_run_locate.proofs.FoundLemmas.{written_back}
use Rattle.lpis_run_locate.proofs.search.search_in.Goals as goal

pub returns-in-Points : goal.returns-in-Points
returns-in-Points c = λ table before is.
    let mine = subst (IsSearched table before) c.in-Points.is is in
    let v = ap length c.deref_mut.ensures.value in
    let l = c.deref_mut.ensures.len in
    on_ok_weaker c.locate_in.result (λ told. (
      mine.0,
      written_back before c.args.release.now c.in-Points.search.points c.in-Points.search.found.items c.deref_mut.result.now c.locate_in.new.found _ (omega (arith, told.as_many, v, l))
          c.deref_mut.ensures.value mine.1 told,
    )) c.locate_in.ensures.found
