use Rattle.std.proofs.Common.{rules}
use Rattle.lpis_register_rows.proofs.Common.{All-permutation, KnownLine, HasText, line_in}
use Rattle.std.proofs.lemmas.List.Sorted.{IsPermutation-map, answers_always}
use Rattle.lpis_register_rows.proofs.known.read_lines.Goals as goal

pub returns-clause-same : goal.returns-clause-same
returns-clause-same c = rw c.in_ok-known.ensures.same at (IsPermutation-map line_in c.in_ok-known.known.items
    c.sort_unstable_by_key.new.self.items c.sort_unstable_by_key.ensures.permutation)

pub returns-clause-texts : goal.returns-clause-texts
returns-clause-texts c = All-permutation (λ (k : KnownLine). HasText k.row) c.in_ok-known.known.items
    c.sort_unstable_by_key.new.self.items c.sort_unstable_by_key.ensures.permutation c.in_ok-known.ensures.texts

pub returns-clause-sorted : goal.returns-clause-sorted
returns-clause-sorted c = c.sort_unstable_by_key.ensures.sorted (λ (k : KnownLine). (k.year, k.position)) (answers_always _ _ _ (λ f a r g h. search rules))
