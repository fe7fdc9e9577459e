use Rattle.std.proofs.Common.{List, ℕ, subst, sym}
use Rattle.lpis_lineage.specs.Order.{IsAscending}
use Rattle.lpis_lineage.proofs.GroupLemmas.{ascending-none}
use Rattle.lpis_lineage.proofs.exact.others_in.Goals as goal

pub returns-in-None-clause-ascend : goal.returns-in-None-clause-ascend
returns-in-None-clause-ascend c = subst (λ (ids : List (List ℕ)). IsAscending ids) (sym c.new.ensures.items) ascending-none
