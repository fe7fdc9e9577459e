use Rattle.lpis_cert.proofs.LawLemmas.{is_only}
use Rattle.lpis_cert.proofs.reading.read_cert.Goals as goal

pub returns-clause-only : goal.returns-clause-only
returns-clause-only c = is_only c.read_text.result c.args.bytes.now c.read_text.ensures.found c.read_text.ensures.fault
