use Rattle.lpis_run.proofs.RefusalLemmas.{check-refusal}
use Rattle.lpis_run.proofs.refusal.print_check_fault.Goals as goal

pub returns : goal.returns
returns g c =
    rw c.in-At.is (check-refusal _ _ _ _ c.as_str.result.now _ _ c.as_str.ensures c.in_ok-write.ensures.bytes c.in_ok-print_location.ensures c.in_ok-write_all.ensures.bytes)
