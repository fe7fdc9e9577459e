use Rattle.lpis_run_country.proofs.RunLemmas.{refused_written}
use Rattle.lpis_run_country.proofs.judging.write_verdict.Goals as goal

pub returns-in_ok-write_to-in-Err-Refused-clause-written : goal.returns-in_ok-write_to-in-Err-Refused-clause-written
returns-in_ok-write_to-in-Err-Refused-clause-written g c = λ s before name p verdict.
    refused_written s before name p c.args.verdict c.in-Err-Refused.field-0 c.in-Err-Refused.answer c.in_ok-write_to-in-Err-Refused.field-0
    (g.W.Write.contents c.args.out.now) (g.W.Write.contents c.write_to.new.out)
    c.in-Err-Refused.is c.in-Err-Refused.field-0-is c.in_ok-write_to-in-Err-Refused.ensures.status c.in_ok-write_to-in-Err-Refused.ensures.text verdict
