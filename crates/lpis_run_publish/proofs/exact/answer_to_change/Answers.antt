use Rattle.lpis_lineage_exact.specs.Asking.{AsksFor}
use Rattle.lpis_register.specs.Holdings.{holdings}
use Rattle.lpis_run_publish.proofs.exact.answer_to_change.Goals as goal

pub returns-in-Ok : goal.returns-in-Ok
returns-in-Ok c = λ h parcels rows to shapes.
    let asked = c.in-Ok.ensures.asks h parcels rows to shapes in
    let asks : AsksFor h c.args.kept.now parcels rows asked.0 c.as_slice.result.now = rw c.as_slice.ensures.value asked.1 in
    c.answer_to_parts.ensures (holdings h c.args.kept.now) parcels rows asked.0 asks
