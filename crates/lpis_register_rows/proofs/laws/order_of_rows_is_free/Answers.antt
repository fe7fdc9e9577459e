use Rattle.lpis_register_rows.proofs.MovingLemmas.{textless-says}
use Rattle.lpis_register_rows.proofs.laws.order_of_rows_is_free.Goals as goal

pub returns : goal.returns
returns c = textless-says
