use Rattle.std.proofs.Common.{◌<◌, ◌^◌, ℕ, rules, subst, sym}
use Rattle.std.proofs.lemmas.List.Sorted.{answers_always, length_permutation}
use Rattle.lpis_places.proofs.StripLemmas.{sorted_rise, start_key}
use Rattle.lpis_places.proofs.strips.grid_from.Goals as goal

pub invariant_of-result-clause-rising : goal.invariant_of-result-clause-rising
invariant_of-result-clause-rising c =
    sorted_rise c.sort_unstable_by_key.new.self.items (c.sort_unstable_by_key.ensures.sorted start_key (answers_always _ _ _ (λ f a r g h. search rules)))

pub invariant_of-result-clause-few : goal.invariant_of-result-clause-few
invariant_of-result-clause-few c =
    subst (λ (n : ℕ). n < 2 ^ 32) (sym (length_permutation c.args.starts.items c.sort_unstable_by_key.new.self.items c.sort_unstable_by_key.ensures.permutation)) c.requires
