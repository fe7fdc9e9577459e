use Rattle.lpis_register_rows.proofs.AmongLemmas.{Walked}
use Rattle.lpis_register_rows.proofs.shapes.are_among.Given as goal

abbrev pub invariant-loop-id : goal.invariant-loop-id
invariant-loop-id l = Walked l.live l.id-iterator l.shapes l.left
