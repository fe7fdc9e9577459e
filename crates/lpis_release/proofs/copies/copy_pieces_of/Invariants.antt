use Rattle.std.proofs.Common.{◌≡◌, ◌++◌}
use Rattle.lpis_release.specs.Release.{pieces_named}
use Rattle.lpis_release.proofs.copies.copy_pieces_of.Given as goal

abbrev pub invariant-loop-piece : goal.invariant-loop-piece
invariant-loop-piece l = l.copies.items ++ l.piece-iterator ≡ pieces_named l.release l.parcel
