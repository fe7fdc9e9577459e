use Rattle.std.proofs.Common.{All, Any}
use Rattle.lpis_cutter.proofs.Common.{rational_of, IsInPiece, Piece}
use Rattle.lpis_release.specs.Release.{pieces_named}
use Rattle.lpis_cutter.proofs.telling.is_covered.Given as goal

abbrev pub invariant-loop-piece : goal.invariant-loop-piece
invariant-loop-piece l =
    (All (λ (y : Piece). IsInPiece (rational_of l.p) y → ⊥) l.piece-iterator
    → All (λ (y : Piece). IsInPiece (rational_of l.p) y → ⊥) (pieces_named l.release l.parcel))
    × (Any (IsInPiece (rational_of l.p)) l.piece-iterator → Any (IsInPiece (rational_of l.p))
    (pieces_named l.release l.parcel))
