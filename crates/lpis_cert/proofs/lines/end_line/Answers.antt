use Rattle.std.proofs.Common.{refl}
use Rattle.lpis_cert.proofs.Common.{err_from_is_err_and}
use Rattle.lpis_cert.proofs.BlockLemmas.{end_taken, end_untaken}
use Rattle.lpis_cert.proofs.lines.end_line.Goals as goal

pub returns-in_err-words : goal.returns-in_err-words
returns-in_err-words c =
    let p = err_from_is_err_and c.from_residual.result c.from_residual.ensures.1 in
    rw (p.1, p.2) c.in_err-words.ensures

pub returns-in-None : goal.returns-in-None
returns-in-None c = end_taken c.args.version c.in_ok-words.ensures c.in-None.ensures.0

pub returns-in-Some : goal.returns-in-Some
returns-in-Some c = (refl, end_untaken c.args.version c.in_ok-words.ensures c.in-Some.ensures)
