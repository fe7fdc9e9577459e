use Rattle.std.proofs.Common.{◌≡◌, take}
use Rattle.lpis_lineage.specs.Tracings.{reached_by}
use Rattle.lpis_lineage.proofs.tracing.Tracing.of.Given as goal

abbrev pub invariant-loop-pair : goal.invariant-loop-pair
invariant-loop-pair l = l.ids.items ≡ reached_by l.asker (take l.pair-index l.pair-items)
