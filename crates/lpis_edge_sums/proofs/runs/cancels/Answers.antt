use Rattle.std.proofs.Common.{◌≡◌, pos, sym, ◌∙◌, subst, List, arith}
use Rattle.lpis_edge_sums.proofs.Common.{SignedEdge, sum_at, IsGrouped}
use Rattle.lpis_edge_sums.proofs.GroupingLemmas.{sorted_is_grouped}
use Rattle.lpis_edge_sums.proofs.RunLemmas.{sum_at-permutation}
use Rattle.lpis_edge_sums.proofs.runs.cancels.Goals as goal

pub runs_cancel-requires : goal.runs_cancel-requires
runs_cancel-requires c = record {
  few = omega (arith, c.deref.type_inv.1);
  grouped = subst IsGrouped (sym c.deref.ensures.value) (sorted_is_grouped c.sort_unstable.new.self.items c.sort_unstable.ensures.sorted);
}

pub returns : goal.returns
returns c =
    let d = c.deref.ensures.value in
    let p = c.sort_unstable.ensures.permutation in (
      λ t a b. sym (sum_at-permutation a b c.args.edges.now.items c.sort_unstable.new.self.items p) ∙ subst (λ (xs : List SignedEdge). sum_at a b xs ≡ pos 0) d (c.runs_cancel.ensures.0 t a b),
      λ z. c.runs_cancel.ensures.1 (λ a b. subst (λ (xs : List SignedEdge). sum_at a b xs ≡ pos 0) (sym d) (sum_at-permutation a b c.args.edges.now.items c.sort_unstable.new.self.items p ∙ z a b)),
    )
