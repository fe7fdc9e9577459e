use Rattle.std.proofs.Common.{All, Contains}
use Rattle.lpis_checker.proofs.Common.{rational_of, Piece, pieces_named, IsInPiece}
use Rattle.lpis_checker.proofs.locating.piece_at.Given as goal

abbrev pub invariant-loop-piece : goal.invariant-loop-piece
invariant-loop-piece l =
    (All (λ (y : Piece). IsInPiece (rational_of l.p) y → ⊥) l.piece-iterator
    → All (λ (y : Piece). IsInPiece (rational_of l.p) y → ⊥) (pieces_named l.release l.parcel.id))
    × ((y : Piece) → Contains l.piece-iterator y → Contains (pieces_named l.release l.parcel.id) y)
