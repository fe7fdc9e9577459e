use Rattle.std.proofs.Common.{rules, is_lt, nat_cmp}
use Rattle.lpis_register_rows.proofs.Common.{slice_cmp}
use Rattle.std.specs.Cmp.Lexicographic.{nat_list_cmp_total}
use Rattle.std.proofs.lemmas.List.Sorted.{answers_always, ranks_by}
use Rattle.lpis_register_rows.proofs.named.sort.Goals as goal

pub returns-clause-sorted : goal.returns-clause-sorted
returns-clause-sorted g c = c.sort_unstable_by.ensures.sorted (λ x y. is_lt (slice_cmp nat_cmp (g.T.Named.id_of x) (g.T.Named.id_of y))) (ranks_by nat_list_cmp_total g.T.Named.id_of)
    (answers_always _ _ _ (λ f a r g h. search rules))
