use Rattle.lpis_cert.proofs.Common.{corner_numbers}
use Rattle.lpis_cert.proofs.FastPathLemmas.{corners_begin}
use Rattle.lpis_cert.proofs.fast_path.leading_corners.Goals as goal

pub returns-clause-line : goal.returns-clause-line
returns-clause-line c =
    corners_begin c.args.version c.args.flat c.letter.result c.args.text.now c.in_ok-after.after.now c.in_ok-fields.fields.now (corner_numbers c.in_ok-triangle.triangle) c.in_ok-triangle.rest.now
    c.letter.ensures c.in_ok-after.ensures c.in_ok-fields.ensures c.in_ok-triangle.ensures.words
