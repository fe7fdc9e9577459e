use Rattle.std.proofs.Common.{ap₂, sym}
use Rattle.lpis_country_seam.specs.Faults.{seam_class_faults}
use Rattle.lpis_country_seam.proofs.ReportLemmas.{told-alike, told-left}
use Rattle.lpis_country_seam.proofs.seam.OpenSeam.check.Goals as goal

pub returns-in-Err-clause-reports : goal.returns-in-Err-clause-reports
returns-in-Err-clause-reports c = told-left (seam_class_faults 1 c.args.release.now.classes c.args.self.now.classes.items) _ c.in-Err.fault
    (told-alike (seam_class_faults 1 c.args.release.now.classes c.args.self.now.classes.items) (seam_class_faults 1 c.classes.result.now c.as_slice-2.result.now) c.in-Err.fault
    (ap₂ (seam_class_faults 1) (sym c.classes.ensures.classes) (sym c.as_slice-2.ensures.value)) c.in-Err.ensures)
