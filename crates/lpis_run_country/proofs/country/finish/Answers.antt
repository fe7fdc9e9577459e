use Rattle.lpis_run_country.specs.private.Totals.{last_lines}
use Rattle.lpis_run_country.proofs.RunLemmas.{finishes, finishes_not}
use Rattle.lpis_run_country.proofs.country.finish.Goals as goal

pub returns-clause-finished : goal.returns-clause-finished
returns-clause-finished g c = finishes (last_lines c.args.count c.args.totals) c.write_to.result (g.W.Write.contents c.args.out.now) (g.W.Write.contents c.write_to.new.out)
    c.in_ok-answer.answer.text.items c.in_ok-answer.answer.status c.in_ok-answer.ensures.0 c.in_ok-answer.ensures.1 c.write_to.ensures.status c.write_to.ensures.text

pub returns-clause-failure : goal.returns-clause-failure
returns-clause-failure g c = finishes_not (last_lines c.args.count c.args.totals) c.write_to.result (g.W.Write.contents c.args.out.now) (g.W.Write.contents c.write_to.new.out)
    c.in_ok-answer.answer.text.items c.in_ok-answer.ensures.0 c.write_to.ensures.failure
