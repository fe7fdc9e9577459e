use Rattle.lpis_run_check.proofs.OneAnswerLemmas.{one_answer}
use Rattle.lpis_run_check.proofs.laws.a_check_has_one_answer.Goals as goal

pub returns : goal.returns
returns c = one_answer
