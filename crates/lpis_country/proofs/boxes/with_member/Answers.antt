use Rattle.std.proofs.Common.{List, ap, sym, ◌∙◌}
use Rattle.lpis_points.specs.declared.point.Point.{Point}
use Rattle.lpis_points.specs.declared.boxes.Box4.{Box4}
use Rattle.lpis_edge_sums.specs.Making.{points_of_rings}
use Rattle.lpis_country.specs.Polygons.{box_with_all}
use Rattle.lpis_country.proofs.BoxLemmas.{box_append}
use Rattle.lpis_country.proofs.boxes.with_member.Goals as goal

pub returns : goal.returns
returns c =
    c.with_rings.ensures ∙ ap (λ (rings : List (List Point)). box_with_all c.with_ring-shell.result (points_of_rings rings)) c.as_slice.ensures
    ∙ ap (λ (b : Box4). box_with_all b (points_of_rings c.args.member.now.holes)) c.with_ring-shell.ensures ∙ sym
    (box_append c.args.b c.args.member.now.shell (points_of_rings c.args.member.now.holes))
