use Rattle.lpis_cert.proofs.ReadbackLemmas.{faultless_has_cert}
use Rattle.lpis_cert.proofs.laws.texts_without_fault.Goals as goal

pub returns : goal.returns
returns c = faultless_has_cert
