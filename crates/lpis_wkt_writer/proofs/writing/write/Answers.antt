use Rattle.std.proofs.Common.{◌≡◌, List, ℕ, subst, sym, string_bytes}
use Rattle.lpis_wkt.specs.Text.{PolygonText}
use Rattle.lpis_wkt_writer.specs.Text.{polygon_text, HaveRings}
use Rattle.lpis_wkt_writer.proofs.SpellingLemmas.{polygon_is_spelled}
use Rattle.lpis_wkt_writer.proofs.writing.write.Goals as goal

pub returns-clause-spells : goal.returns-clause-spells
returns-clause-spells c =
    let text : string_bytes c.write_text.new.out ≡ polygon_text c.args.polygon.now = rw (c.new-out.ensures.bytes, c.members.ensures.same) at c.in_ok-write_text.ensures.text in
    let rings : HaveRings c.args.polygon.now = rw c.members.ensures.same at c.in_ok-write_text.ensures.rings in
    subst (λ (t : List ℕ). PolygonText t c.args.polygon.now) (sym text) (polygon_is_spelled c.args.polygon.now c.members.ensures.polygon rings)
