use Rattle.std.proofs.Common.{◌∙◌, sym}
use Rattle.lpis_country_seam.proofs.ReportLemmas.{lack-told}
use Rattle.lpis_country_seam.proofs.testing.is_lacking.Goals as goal

pub returns-then-meets_number : goal.returns-then-meets_number
returns-then-meets_number c = lack-told (λ p. p.now) c.parcel.result _ c.is_none.result c.args.release.now c.args.parcel.now.id (sym (c.meets_number.ensures c.args.parcel.now c.requires)
    ∙ c.if-meets_number.true) c.parcel.ensures c.is_none.ensures
