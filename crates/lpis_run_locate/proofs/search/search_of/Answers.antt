use Rattle.std.proofs.Common.{◌∙◌, ap, length}
use Rattle.lpis_run_locate.proofs.FoundLemmas.{none_found}
use Rattle.lpis_run_locate.proofs.search.search_of.Goals as goal

pub returns : goal.returns
returns c = λ table is. (
  is,
  none_found c.args.points c.in_ok-found.found.items (c.in_ok-found.ensures.count ∙ ap length c.as_slice.ensures) c.in_ok-found.ensures.none,
)
