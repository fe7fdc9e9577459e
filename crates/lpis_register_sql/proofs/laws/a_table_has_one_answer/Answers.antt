use Rattle.lpis_register_sql.proofs.OneAnswerLemmas.{two_answers}
use Rattle.lpis_register_sql.proofs.laws.a_table_has_one_answer.Goals as goal

pub returns : goal.returns
returns c = two_answers
