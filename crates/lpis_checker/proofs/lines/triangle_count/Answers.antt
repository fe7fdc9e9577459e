use Rattle.std.proofs.Common.{◌∙◌, List, length, sum_by, sym, ap}
use Rattle.lpis_checker.proofs.Common.{PiecePart}
use Rattle.std.proofs.lemmas.List.{take_all}
use Rattle.std.proofs.lemmas.List.Concat.{length-flat_map}
use Rattle.lpis_checker.proofs.lines.triangle_count.Goals as goal

pub returns : goal.returns
returns c =
    let parts = c.as_slice-part-items.result.now in
    let all = take_all c.loop-part.part-index parts c.loop-part-test.false ∙ c.as_slice-part-items.ensures in
    let sum = c.loop-part.invariant ∙ ap (λ (ps : List PiecePart). sum_by (λ (p : PiecePart). length p.triangles) ps) all in
    sum ∙ sym (length-flat_map (λ (p : PiecePart). p.triangles) c.args.cert.now.pieces)
