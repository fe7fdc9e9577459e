use Rattle.std.proofs.Common.{◌≡◌, ◌+◌, length, take, sum_by}
use Rattle.lpis_run_publish.proofs.blocks.count_flats.Given as goal

abbrev pub invariant-loop-piece : goal.invariant-loop-piece
invariant-loop-piece l = l.count ≡ sum_by (λ p. length p.flats) (take l.piece-index l.piece-items)

abbrev pub invariant-loop-parcel : goal.invariant-loop-parcel
invariant-loop-parcel l = l.count ≡ sum_by (λ p. length p.flats) l.cert.pieces + sum_by (λ p. length p.flats) (take l.parcel-index l.parcel-items)
