use Rattle.std.proofs.Common.{refl}
use Rattle.lpis_cert.proofs.Common.{err_from_is_err_and, corner_numbers}
use Rattle.lpis_cert.proofs.BlockLemmas.{corner_taken, corner_untaken}
use Rattle.lpis_cert.proofs.FastPathLemmas.{corners_taken}
use Rattle.lpis_cert.proofs.lines.corner_line.Goals as goal

pub returns-in_err-words : goal.returns-in_err-words
returns-in_err-words c =
    let p = err_from_is_err_and c.from_residual.result c.from_residual.ensures.1 in
    let kind = c.corner_kind.ensures in
    rw (p.1, p.2) (rw kind at c.in_err-words.ensures)

pub returns-in-Some-corners : goal.returns-in-Some-corners
returns-in-Some-corners c =
    let kind = c.corner_kind.ensures in
    corner_taken c.args.version c.args.flat
    (corner_numbers c.in-Some-corners.triangle) (rw kind at c.in_ok-words.ensures) c.in-Some-corners.ensures

pub returns-in-None : goal.returns-in-None
returns-in-None c =
    let kind = c.corner_kind.ensures in
    (refl, corner_untaken c.args.version c.args.flat (rw kind at c.in_ok-words.ensures) c.in-None.ensures)

pub returns-in-Some : goal.returns-in-Some
returns-in-Some c =
    corners_taken c.args.version c.args.rest.text.now c.args.rest.line c.args.flat (corner_numbers c.in-Some.triangle) c.in-Some.text.now c.in-Some.ensures.line c.in-Some.ensures.fits
