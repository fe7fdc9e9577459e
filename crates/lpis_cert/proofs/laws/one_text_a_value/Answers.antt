use Rattle.lpis_cert.proofs.LawLemmas.{one_text}
use Rattle.lpis_cert.proofs.laws.one_text_a_value.Goals as goal

pub returns : goal.returns
returns c = one_text
