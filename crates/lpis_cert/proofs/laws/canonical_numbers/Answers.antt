use Rattle.std.proofs.Common.{◌∙◌, ap}
use Rattle.lpis_cert.proofs.Common.{cert_number}
use Rattle.lpis_cert.proofs.NumberLemmas.{number_again, number_takes}
use Rattle.lpis_cert.proofs.laws.canonical_numbers.Goals as goal

pub returns : goal.returns
returns c = λ limit w n small. (number_takes limit w n small, λ h. ap (cert_number limit) h.0 ∙ number_again limit n small h.1)
