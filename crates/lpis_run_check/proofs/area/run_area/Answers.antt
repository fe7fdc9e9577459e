use Rattle.lpis_run.proofs.Shared.{runs_written}
use Rattle.lpis_run_check.specs.AreaAnswer.{Measures}
use Rattle.lpis_run_check.proofs.area.run_area.Goals as goal

pub returns : goal.returns
returns g c =
    let bytes = c.in_ok-bytes.bytes.items in
    let is : Measures (g.R.Read.remaining c.args.table) _ = (bytes, c.in_ok-bytes.ensures.all, rw c.as_slice.ensures.value at c.in_ok-answer.ensures) in
    runs_written _ _ _ _ _ _ c.write_to.result is c.write_to.ensures.status c.write_to.ensures.text c.write_to.ensures.failure
