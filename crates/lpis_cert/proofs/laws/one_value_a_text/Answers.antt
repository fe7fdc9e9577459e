use Rattle.lpis_cert.proofs.LawLemmas.{one_cert}
use Rattle.lpis_cert.proofs.laws.one_value_a_text.Goals as goal

pub returns : goal.returns
returns c = one_cert
