use Rattle.std.proofs.Common.{◌≡◌, ◌+◌, take, drop}
use Rattle.lpis_release.proofs.Common.{reference_faults}
use Rattle.lpis_release.specs.private.Joined.{AreJoins}
use Rattle.lpis_release.proofs.joins.join_pieces.Given as goal

abbrev pub invariant-loop-i : goal.invariant-loop-i
invariant-loop-i l =
    (reference_faults l.parcels l.classes 1 l.pieces ≡ reference_faults l.parcels l.classes (l.i + 1) (drop l.i l.pieces))
    × AreJoins l.parcels (take l.i l.pieces) l.classes l.joins.items l.class_indices.items
