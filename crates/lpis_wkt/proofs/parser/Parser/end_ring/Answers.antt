use Rattle.std.proofs.Common.{◌≡◌, sym, ap, ◌∙◌, refl, Err}
use Rattle.lpis_wkt.proofs.Common.{Context, close_ring}
use Rattle.lpis_wkt.proofs.ClosingLemmas.{short_ring, open_ring, points_at}
use Rattle.lpis_wkt.proofs.parser.Parser.end_ring.Goals.{in-Short, in-Unclosed}
use Rattle.lpis_wkt.proofs.parser.Parser.end_ring.Goals as goal

pub returns-after-bad : goal.returns-after-bad
returns-after-bad c = λ b ps e.
    let i = c.self.inside in
    let ctx : Context = record { multi = i.multi; members = i.members.items; rings = i.rings.items } in
    let same : i.points.items ≡ ps = points_at i.expecting ctx b i.points.items ps (c.self.view_is ∙ e) in
    let ended = c.in_ok-points.points.items in
    let kept : ended ≡ i.points.items = c.in_ok-points.ensures.items ∙ c.as_slice.ensures.value in
    let why = c.in-Err.ensures.why in
    let closes : close_ring b ended ≡ Err c.match-bad.code = elim c.match-bad.branch [
      | in-Short w ↦ short_ring b ended (why.0 w.in-Short.is) ∙ ap Err (sym w.code-is)
      | in-Unclosed w ↦ open_ring b ended (λ lt. (let short = why.1 lt in let unclosed = w.in-Unclosed.is in cc)) c.in-Err.ensures.ring ∙ ap Err (sym w.code-is)
    ] in
    (rw (← (kept ∙ same)) closes, refl)
