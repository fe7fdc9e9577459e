use Rattle.std.proofs.Common.{refl}
use Rattle.lpis_cert.proofs.Common.{err_from_is_err_and, separator_of}
use Rattle.lpis_cert.proofs.BlockLemmas.{pair_taken, pair_untaken}
use Rattle.lpis_cert.proofs.FastPathLemmas.{pair_line_taken}
use Rattle.lpis_cert.proofs.lines.pair_line.Goals as goal

pub returns-in_err-words : goal.returns-in_err-words
returns-in_err-words c =
    let p = err_from_is_err_and c.from_residual.result c.from_residual.ensures.1 in
    rw (p.1, p.2) c.in_err-words.ensures

pub returns-in-Some-separator : goal.returns-in-Some-separator
returns-in-Some-separator c = pair_taken c.args.version (separator_of c.in-Some-separator.pair) c.in_ok-words.ensures c.in-Some-separator.ensures

pub returns-in-None : goal.returns-in-None
returns-in-None c = (refl, pair_untaken c.args.version c.in_ok-words.ensures c.in-None.ensures)

pub returns-in-Some : goal.returns-in-Some
returns-in-Some c =
    let p = c.in-Some.pair in
    pair_line_taken c.args.version c.args.rest.text.now c.args.rest.line (separator_of p) c.in-Some.text.now
    (record { i = p.i_fits; j = p.j_fits; k = p.k_fits }) c.in-Some.ensures
