use Rattle.lpis_wkt.proofs.OneCodeLemmas.{one_code}
use Rattle.lpis_wkt.proofs.laws.one_code.Goals as goal

pub returns : goal.returns
returns c = one_code
