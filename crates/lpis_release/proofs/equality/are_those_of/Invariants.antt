use Rattle.std.proofs.Common.{◌≡◌, ◌↔◌}
use Rattle.lpis_release.specs.Release.{pieces_named}
use Rattle.lpis_release.proofs.equality.are_those_of.Given as goal

abbrev pub invariant-loop-piece : goal.invariant-loop-piece
invariant-loop-piece l = (l.pieces ≡ pieces_named l.release l.parcel) ↔ (l.rest ≡ l.piece-iterator)
