use Rattle.std.proofs.Common.{rules}
use Rattle.lpis_register_rows.proofs.Common.{Mark}
use Rattle.std.proofs.lemmas.List.Sorted.{answers_always}
use Rattle.lpis_register_rows.proofs.marks.sorted.Goals as goal

pub returns-clause-sorted : goal.returns-clause-sorted
returns-clause-sorted c = c.sort_unstable_by_key.ensures.sorted (λ (m : Mark). (m.year, m.position)) (answers_always _ _ _ (λ f a r g h. search rules))
