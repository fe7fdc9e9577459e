use Rattle.lpis_lineage_exact.proofs.ShownLemmas.{shown-is-exact}
use Rattle.lpis_lineage_exact.proofs.laws.what_is_shown_has_exact_lineage.Goals as goal

pub returns : goal.returns
returns c = shown-is-exact c.a_split_is_exact.ensures c.a_merge_is_exact.ensures
