use Rattle.lpis_cert.proofs.LawLemmas.{no_fault}
use Rattle.lpis_cert.proofs.laws.texts_have_no_fault.Goals as goal

pub returns : goal.returns
returns c = no_fault
