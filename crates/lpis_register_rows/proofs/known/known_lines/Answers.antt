use Rattle.lpis_register_rows.proofs.Common.{HasText, line_in}
use Rattle.lpis_register_rows.proofs.KnownLemmas.{rows-more}
use Rattle.lpis_register_rows.proofs.known.known_lines.Goals as goal

pub loop-line-preserved : goal.loop-line-preserved
loop-line-preserved c = rows-more line_in (λ l. HasText l.row) c.args.lines.now c.loop-line.line-index c.line-item.result c.loop-line.known.items
    c.push.new.self.items c.in_ok-line.line c.loop-line-test.true c.line-item.is c.in_ok-line.ensures.same
    c.in_ok-line.ensures.text c.in_ok-push.ensures.items c.loop-line.invariant
