use Rattle.std.proofs.Common.{◌≡◌, true}
use Rattle.lpis_register_rows.proofs.Common.{All-permutation, KnownSpan, is_id, span_in}
use Rattle.std.proofs.lemmas.List.Sorted.{IsPermutation-map}
use Rattle.lpis_register_rows.proofs.known.read_spans.Goals as goal

pub returns-clause-same : goal.returns-clause-same
returns-clause-same c = rw c.in_ok-spans.ensures.same at (IsPermutation-map span_in c.in_ok-spans.spans.items c.sort.new.rows.items c.sort.ensures.same)

pub returns-clause-ids : goal.returns-clause-ids
returns-clause-ids c = All-permutation (λ (s : KnownSpan). is_id s.id ≡ true) c.in_ok-spans.spans.items c.sort.new.rows.items c.sort.ensures.same c.in_ok-spans.ensures.ids
