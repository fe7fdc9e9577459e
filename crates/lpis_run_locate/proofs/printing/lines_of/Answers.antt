use Rattle.std.proofs.Common.{◌++◌, ◌∙◌, ℕ, List, ap, codes, length, refl, sym}
use Rattle.std.proofs.lemmas.Option.{slice_get_read}
use Rattle.lpis_run_locate.specs.LocateLines.{point_line}
use Rattle.lpis_run_locate.proofs.LineLemmas.{all-lines, more-lines}
use Rattle.lpis_run_locate.proofs.printing.lines_of.Goals as goal

pub loop-i-preserved : goal.loop-i-preserved
loop-i-preserved c =
    let points = c.args.points.now in
    let found = c.args.found.now in
    let i = c.loop-i.i in
    let point = c.index-points-i.result in
    let place = c.index-found-i.result in
    c.in_ok-add_line.ensures ∙ ap (λ (t : List ℕ). t ++ point_line point.id place) c.loop-i.invariant
    ∙ sym (more-lines points found i point place (slice_get_read points (length points) i point refl c.loop-i-test.true c.index-points-i.is)
    (slice_get_read found (length points) i place (sym c.requires) c.loop-i-test.true c.index-found-i.is))

pub returns : goal.returns
returns c =
    let lines = all-lines c.args.points.now c.args.found.now c.loop-i.i c.requires c.loop-i-test.false in
    c.in_ok-add_bytes.ensures ∙ ap (λ (t : List ℕ). t ++ codes "yes\n") (c.loop-i.invariant ∙ lines)
