use Rattle.std.proofs.Common.{take, All}
use Rattle.lpis_register_rows.proofs.Common.{IsSpanRow, span_in}
use Rattle.lpis_register_rows.proofs.opening.are_told.Given as goal

abbrev pub invariant-loop-span : goal.invariant-loop-span
invariant-loop-span l = All (λ s. IsSpanRow l.history (span_in s)) (take l.span-index l.spans)
