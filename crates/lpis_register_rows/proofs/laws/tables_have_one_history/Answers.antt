use Rattle.lpis_register_rows.proofs.laws.tables_have_one_history.Goals as goal
use Rattle.lpis_register_rows.proofs.OneHistoryLemmas.{one-history}

pub returns : goal.returns
returns c = one-history
