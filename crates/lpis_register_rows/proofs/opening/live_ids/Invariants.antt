use Rattle.std.proofs.Common.{take}
use Rattle.lpis_register_rows.proofs.KnownLemmas.{AreLive}
use Rattle.lpis_register_rows.proofs.opening.live_ids.Given as goal

abbrev pub invariant-loop-span : goal.invariant-loop-span
invariant-loop-span l = AreLive l.ids.items l.year (take l.span-index l.spans)
