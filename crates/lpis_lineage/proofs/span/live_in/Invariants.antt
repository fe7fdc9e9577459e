use Rattle.std.proofs.Common.{◌≡◌, take}
use Rattle.lpis_lineage.specs.Spans.{live_in}
use Rattle.lpis_lineage.proofs.span.live_in.Given as goal

abbrev pub invariant-loop-pair : goal.invariant-loop-pair
invariant-loop-pair l = l.ids.items ≡ live_in (take l.pair-index l.spans) l.year
