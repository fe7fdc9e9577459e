use Rattle.std.proofs.Common.{◌∙◌, ℕ, List, sym, subst}
use Rattle.lpis_country_seam.specs.Faults.{seam_faults}
use Rattle.lpis_country_seam.specs.private.Stepping.{IsKeptNext, tested}
use Rattle.lpis_country_seam.proofs.ReportLemmas.{told-alike}
use Rattle.lpis_country_seam.proofs.SeamLemmas.{seam-goes-on, seam-places, seam-tested}
use Rattle.lpis_country_seam.proofs.seam.OpenSeam.step.Goals as goal

pub returns-in-Err-clause-reports : goal.returns-in-Err-clause-reports
returns-in-Err-clause-reports c = λ tiles classes done h. told-alike (seam_faults tiles classes done c.args.release.now) (tested c.args.self.now c.args.release.now) c.in-Err.fault
    (sym (seam-tested tiles classes done c.args.self.now c.args.release.now h)) c.in-Err.ensures.reports

pub returns-in_ok-keep-in-Ok-clause-reports : goal.returns-in_ok-keep-in-Ok-clause-reports
returns-in_ok-keep-in-Ok-clause-reports c = λ tiles classes done h. sym (seam-tested tiles classes done c.args.self.now c.args.release.now h) ∙ c.in-Ok.ensures.reports

pub returns-in_ok-keep-in-Ok-clause-goes_on : goal.returns-in_ok-keep-in-Ok-clause-goes_on
returns-in_ok-keep-in-Ok-clause-goes_on c = λ tiles classes done h. seam-goes-on tiles classes done c.args.self.now c.keep.new.self c.args.release.now c.in-Ok.places.items h
    (subst (λ (is : List ℕ). IsKeptNext c.args.self.now c.keep.new.self c.args.release.now is) c.as_slice.ensures.value c.in_ok-keep-in-Ok.ensures)
    c.in-Ok.ensures.reports c.in-Ok.ensures.places c.is_region.ensures

pub returns-in_ok-keep-in-Ok-clause-new : goal.returns-in_ok-keep-in-Ok-clause-new
returns-in_ok-keep-in-Ok-clause-new c = λ tiles classes done h. seam-places tiles classes done c.args.self.now c.args.release.now c.in-Ok.places.items h c.in-Ok.ensures.places
