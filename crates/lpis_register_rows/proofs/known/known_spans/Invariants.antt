use Rattle.std.proofs.Common.{◌≡◌, ◌++◌, length, map, true, All}
use Rattle.std.specs.Vec.Iter.{into_iter_items, into_iter_len}
use Rattle.lpis_register_rows.proofs.Common.{is_id, span_in}
use Rattle.lpis_register_rows.proofs.known.known_spans.Given as goal

abbrev pub invariant-loop-row : goal.invariant-loop-row
invariant-loop-row l = (map span_in l.spans.items ++ into_iter_items l.row-iterator ≡ into_iter_items l.initial.row-iterator)
    × All (λ s. is_id s.id ≡ true) l.spans.items
    × (into_iter_len l.row-iterator ≡ length (into_iter_items l.row-iterator))
