use Rattle.std.proofs.Common.{◌≡◌, map, take, All}
use Rattle.lpis_register_rows.proofs.Common.{StoredSpan, IsSpanRow}
use Rattle.lpis_register_rows.proofs.spans.span_rows.Given as goal

abbrev pub invariant-loop-id : goal.invariant-loop-id
invariant-loop-id l = (map (λ (s : StoredSpan). s.id) l.rows.items ≡ take l.id-index l.ids) × All (IsSpanRow l.history) l.rows.items
