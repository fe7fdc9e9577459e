use Rattle.lpis_register_sql.proofs.Shared.{leaves_all}
use Rattle.lpis_register.proofs.finding.find_shapes.Goals as goal

pub returns-in-First-clause-reads : goal.returns-in-First-clause-reads
returns-in-First-clause-reads g c = leaves_all _

pub returns-in-Third-clause-sees : goal.returns-in-Third-clause-sees
returns-in-Third-clause-sees g c = rw c.in-Third.is c.find_texts.ensures.sees
