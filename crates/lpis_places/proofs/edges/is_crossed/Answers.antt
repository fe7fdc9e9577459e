use Rattle.std.proofs.Common.{◌≡◌, ◌*ℤ◌, ◌∙◌, int_lt, sym}
use Rattle.std.specs.Cmp.{booleans_Decides}
use Rattle.lpis_points.specs.RatPoints.{rational_of}
use Rattle.lpis_places.specs.Numbers.{parts}
use Rattle.lpis_places.proofs.InsideLemmas.{not_passed}
use Rattle.lpis_places.proofs.edges.is_crossed.Goals as goal

pub returns-then-is_above : goal.returns-then-is_above
returns-then-is_above c =
    let p = c.args.p.now in
    let e = c.args.edge in
    let alike = (booleans_Decides c.is_above.result c.is_above-2.result).0 c.if-is_above.true in
    let same : int_lt p.y (e.from.y *ℤ parts) ≡ int_lt p.y (e.to.y *ℤ parts) = sym c.is_above.ensures ∙ alike ∙ c.is_above-2.ensures in
    sym (not_passed e.from e.to (rational_of p) (rw c.requires same))
