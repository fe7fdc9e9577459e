use Rattle.std.proofs.Common.{◌≡◌, length, take, sum_by}
use Rattle.lpis_run_check.proofs.cut_line.count_triangles.Given as goal

abbrev pub invariant-loop-piece : goal.invariant-loop-piece
invariant-loop-piece l = l.count ≡ sum_by (λ p. length p.triangles) (take l.piece-index l.piece-items)
