use Rattle.lpis_country.proofs.TreeLemmas.{as_many_tiles}
use Rattle.lpis_country.proofs.laws.as_many_folders_as_tiles.Goals as goal

pub returns : goal.returns
returns c = λ t b. as_many_tiles t b
