use Rattle.lpis_run_locate.proofs.FaultLemmas.{number_line}
use Rattle.lpis_run_locate.proofs.printing.print_number_fault.Goals as goal

pub returns : goal.returns
returns g c = number_line _ _ c.args.row c.args.axis c.args.code _ _ c.as_str.ensures c.as_str-2.ensures c.in_ok-write.ensures.bytes
