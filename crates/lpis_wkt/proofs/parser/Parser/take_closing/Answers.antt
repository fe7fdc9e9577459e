use Rattle.std.proofs.Common.{◌≡◌, sym, ◌∙◌, refl, List}
use Rattle.lpis_wkt.proofs.Common.{Point, Context, AfterPoint, AfterRing}
use Rattle.lpis_wkt.proofs.parser.Parser.take_closing.Goals as goal

pub returns-in-Close : goal.returns-in-Close
returns-in-Close c =
    let b : Context = record { multi = c.self.inside.multi; members = c.self.inside.members.items; rings = c.self.inside.rings.items } in
    let ps : List Point = c.self.inside.points.items in
    let e : c.args.self.now ≡ AfterPoint b ps = sym c.self.view_is ∙ rw c.in-PointEnd.is refl in
    rw (e, c.in-Close.is) (c.end_ring.ensures b ps e)

pub returns-in-Close-token : goal.returns-in-Close-token
returns-in-Close-token c =
    let b : Context = record { multi = c.self.inside.multi; members = c.self.inside.members.items; rings = c.self.inside.rings.items } in
    let e : c.args.self.now ≡ AfterRing b = sym c.self.view_is ∙ rw c.in-RingEnd.is refl in
    rw (e, c.in-Close-token.is) (c.end_body.ensures b c.args.next.offset e)
