use Rattle.std.proofs.lemmas.Result.{err_from_is_err_and}
use Rattle.lpis_register.proofs.AcceptingLemmas.{accepted_made}
use Rattle.lpis_register.specs.Holdings.{holdings}
use Rattle.lpis_register.proofs.accepting.accept_later.Goals as goal

pub returns-in_err-step : goal.returns-in_err-step
returns-in_err-step c =
    let p = err_from_is_err_and c.from_residual.result c.from_residual.ensures.1 in
    let step = c.in_err-step.ensures in
    rw (p.1, p.2) (record { tells = step.refused c.args.kept.now c.args.year c.args.cert.now.exact c.requires.later; made = tt; no_store = step.no_store })

pub returns-in_err-check_groups : goal.returns-in_err-check_groups
returns-in_err-check_groups c =
    let p = err_from_is_err_and c.from_residual-in_err-check_groups.result c.from_residual-in_err-check_groups.ensures.1 in
    let h = c.args.history.now in
    let step = c.in_ok-step.ensures.step in
    let groups = c.in_err-check_groups.ensures in
    rw (p.1, p.2) (record {
      tells = groups.refused h c.args.parcels.now c.args.rows.now c.args.year (record { none = step.faultless; change = step.change_is })
          (rw (← c.as_slice.ensures.value) at c.in_ok-shapes.ensures.shapes_are) c.requires.later;
      made = tt;
      no_store = groups.no_store;
    })

pub returns : goal.returns
returns c =
    let h = c.args.history.now in
    let parcels = c.args.parcels.now in
    let rows = c.args.rows.now in
    let step = c.in_ok-step.step in
    let may = c.in_ok-step.ensures.step in
    let shown = (rw c.as_slice.ensures.value at c.in_ok-check_groups.ensures.shown) h parcels rows (record { none = may.faultless; change = may.change_is }) c.in_ok-shapes.ensures.shapes_are in
    let made = accepted_made (holdings h c.args.kept.now) parcels c.args.cert.now.exact rows
    (record { live = step.live; writing = record { year = c.args.year; change = step.change; fresh = step.fresh; shapes = c.in_ok-shapes.shapes } })
    c.requires.later may c.in_ok-shapes.ensures c.what_is_shown_has_exact_lineage.ensures c.sound_maps_have_such_shapes.ensures.once c.requires.sound shown in
    record { tells = (c.requires.later, shown); made = made; no_store = tt }
