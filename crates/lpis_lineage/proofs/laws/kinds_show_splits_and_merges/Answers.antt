use Rattle.lpis_lineage.proofs.ExactLemmas.{kinds-tell-merges, kinds-tell-splits}
use Rattle.lpis_lineage.proofs.laws.kinds_show_splits_and_merges.Goals as goal

pub returns : goal.returns
returns c = record { splits = kinds-tell-splits; merges = kinds-tell-merges }
