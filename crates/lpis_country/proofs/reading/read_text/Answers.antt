use Rattle.lpis_country.proofs.ReadingLemmas.{found_plan, fault_found}
use Rattle.lpis_country.proofs.reading.read_text.Goals as goal

pub returns-clause-found : goal.returns-clause-found
returns-clause-found c = found_plan c.read_lines.result c.args.text.now c.in_ok-lines.lines.now c.in_ok-lines.ensures.ok c.read_lines.ensures.ok

pub returns-clause-fault : goal.returns-clause-fault
returns-clause-fault c = fault_found c.read_lines.result c.args.text.now c.in_ok-lines.lines.now c.in_ok-lines.ensures.ok c.read_lines.ensures.err
