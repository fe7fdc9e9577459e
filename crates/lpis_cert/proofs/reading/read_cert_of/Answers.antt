use Rattle.lpis_cert.proofs.LawLemmas.{is_only}
use Rattle.lpis_cert.proofs.reading.read_cert_of.Goals as goal

pub returns-clause-only : goal.returns-clause-only
returns-clause-only c = is_only c.read_owned.result c.args.text.items c.read_owned.ensures.found c.read_owned.ensures.fault
