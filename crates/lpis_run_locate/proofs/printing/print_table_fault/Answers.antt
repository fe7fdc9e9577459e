use Rattle.lpis_run_locate.proofs.FaultLemmas.{table_line}
use Rattle.lpis_run_locate.proofs.printing.print_table_fault.Goals as goal

pub returns : goal.returns
returns g c = table_line _ _ c.args.code c.args.row _ c.as_str.ensures c.in_ok-write.ensures.bytes
