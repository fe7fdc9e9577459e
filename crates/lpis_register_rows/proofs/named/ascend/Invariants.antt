use Rattle.std.proofs.Common.{◌≤◌, ◌-◌, length, map}
use Rattle.lpis_register_rows.proofs.NamedLemmas.{AscendBefore}
use Rattle.lpis_register_rows.proofs.named.ascend.Given as goal

abbrev pub invariant-loop-next : goal.invariant-loop-next
invariant-loop-next g l = (1 ≤ l.next) × AscendBefore (map g.T.Named.id_of l.rows) l.next

abbrev pub decreases-loop-next : goal.decreases-loop-next
decreases-loop-next g l = length l.rows - l.next
