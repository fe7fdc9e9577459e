use Rattle.lpis_cert.proofs.LawLemmas.{prefix_cut}
use Rattle.lpis_cert.proofs.laws.cut_texts.Goals as goal

pub returns : goal.returns
returns c = prefix_cut
