use Rattle.lpis_country.proofs.LawLemmas.{without_fault}
use Rattle.lpis_country.proofs.laws.plans_without_fault.Goals as goal

pub returns : goal.returns
returns c = λ text e. without_fault text e
