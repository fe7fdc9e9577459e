use Rattle.std.proofs.Common.{map}
use Rattle.lpis_pairs.proofs.Common.{Extent}
use Rattle.lpis_pairs.proofs.NearnessLemmas.{near_test_decided}
use Rattle.lpis_pairs.proofs.ReadLemmas.{mapped_extent, mapped_read, within_mapped}
use Rattle.lpis_pairs.proofs.near.is_near_by_extents.Goals as goal

no_box : Extent
no_box = record { left = 0; bottom = 0; right = 0; top = 0 }

pub extents_meet-requires-clause-first : goal.extents_meet-requires-clause-first
unfolding no_box
extents_meet-requires-clause-first g c =
    mapped_extent g.T.HasTriangle.triangle c.args.triangles.now c.args.extents.now c.args.i c.index-triangles-i.result c.triangle.result.now no_box
    c.requires.extents c.requires.first c.index-triangles-i.is c.triangle.ensures

pub extents_meet-requires-clause-second : goal.extents_meet-requires-clause-second
unfolding no_box
extents_meet-requires-clause-second g c =
    mapped_extent g.T.HasTriangle.triangle c.args.triangles.now c.args.extents.now c.args.j c.index-triangles-j.result c.triangle-then-i-j.result.now no_box
    c.requires.extents c.requires.second c.index-triangles-j.is c.triangle-then-i-j.ensures

pub returns-then-i-j : goal.returns-then-i-j
returns-then-i-j g c =
    let f = g.T.HasTriangle.triangle in
    let xs = c.args.triangles.now in
    near_test_decided (map f xs) c.args.i c.args.j c.triangle.result.now c.triangle-then-i-j.result.now
    c.extents_meet.result c.extents_meet.ensures c.if-i-j.true (within_mapped f xs c.args.j c.requires.second)
    (mapped_read f xs c.args.i c.index-triangles-i.result c.triangle.result.now c.requires.first c.index-triangles-i.is c.triangle.ensures)
    (mapped_read f xs c.args.j c.index-triangles-j.result c.triangle-then-i-j.result.now c.requires.second c.index-triangles-j.is c.triangle-then-i-j.ensures)
