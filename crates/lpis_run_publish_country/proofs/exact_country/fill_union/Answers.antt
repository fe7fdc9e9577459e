use Rattle.std.proofs.Common.{◌∙◌}
use Rattle.lpis_run.specs.Outputs.{outputs_of}
use Rattle.lpis_run_publish_country.proofs.FillingLemmas.{fill_ends}
use Rattle.lpis_run_publish_country.proofs.exact_country.fill_union.Goals as goal

pub returns-in-Ok : goal.returns-in-Ok
returns-in-Ok g c = λ s regions lines tables joins joined tabled.
    fill_ends s tables regions c.args.register.now.held c.empty.result c.as_slice-rows.result.now c.parcels-parcels.result.now (outputs_of c.in-Ok.outcome)
    (c.parcels-parcels.ensures.are ∙ joined.parcels_are) (c.as_slice-rows.ensures.value ∙ tabled.rows_are)
    (record { rest = record { pieces = c.empty.ensures.pieces; parcels = c.empty.ensures.parcels; pairs = c.empty.ensures.pairs }; exact = c.empty.ensures.exact })
    c.in-Ok.ensures.filled
