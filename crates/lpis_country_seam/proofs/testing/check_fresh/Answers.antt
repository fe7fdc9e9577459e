use Rattle.std.proofs.Common.{◌∙◌, sym}
use Rattle.lpis_country_seam.proofs.ReportLemmas.{fresh-first, fresh-none}
use Rattle.lpis_country_seam.proofs.testing.check_fresh.Goals as goal

pub returns-in_ok-fault_at-in-Some : goal.returns-in_ok-fault_at-in-Some
returns-in_ok-fault_at-in-Some c = fresh-first c.args.tiles.now c.args.n c.args.parcel.now c.in-Some.region c.in_ok-fault_at-in-Some.field-0 (sym c.in-Some.is
    ∙ c.first_reached.ensures) c.in_ok-fault_at-in-Some.ensures

pub returns-in-None : goal.returns-in-None
returns-in-None c = fresh-none c.args.tiles.now c.args.n c.args.parcel.now (sym c.in-None.is ∙ c.first_reached.ensures)
