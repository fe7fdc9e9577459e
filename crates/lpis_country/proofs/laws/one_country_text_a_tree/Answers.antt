use Rattle.lpis_country.proofs.LawLemmas.{one_tree}
use Rattle.lpis_country.proofs.laws.one_country_text_a_tree.Goals as goal

pub returns : goal.returns
returns c = λ text t u h k. one_tree text t u h k
