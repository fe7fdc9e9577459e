use Rattle.lpis_country.proofs.FaultLemmas.{no_fault}
use Rattle.lpis_country.proofs.laws.trees_have_no_fault.Goals as goal

pub returns : goal.returns
returns c = λ text t h. no_fault text t h
