use Rattle.lpis_country_seam.proofs.ReportLemmas.{told-left}
use Rattle.lpis_country_seam.proofs.testing.check_parcels.Goals as goal

pub returns-in-Err-clause-reports : goal.returns-in-Err-clause-reports
returns-in-Err-clause-reports c = told-left _ _ c.in-Err.fault c.in-Err.ensures.reports
