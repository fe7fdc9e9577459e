use Rattle.lpis_cert.proofs.OpenLemmas.{broken_text, closed_text}
use Rattle.lpis_cert.proofs.reading.read_text.Goals as goal

pub returns-clause-found : goal.returns-clause-found
returns-clause-found c =
    closed_text c.finish.result c.args.bytes.now c.in_ok-draft.draft c.in_ok-draft.count c.in_ok-draft.rest.text.now c.in_ok-draft.rest.line
    c.in_ok-draft.ensures.ok c.finish.ensures.ok

pub returns-clause-fault : goal.returns-clause-fault
returns-clause-fault c =
    broken_text c.finish.result c.args.bytes.now c.in_ok-draft.draft c.in_ok-draft.count c.in_ok-draft.rest.text.now c.in_ok-draft.rest.line
    c.in_ok-draft.ensures.ok c.finish.ensures.err
