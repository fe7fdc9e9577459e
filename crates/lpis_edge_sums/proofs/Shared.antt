-- The lemmas that the crates above cite, passed on from one place. Declares nothing.
pub use Rattle.lpis_edge_sums.proofs.CountingLemmas.{Found, all_at, all_from, all_left, all_right, any_found, at_most_one, filter_kept, found_any, one_found, one_of_some, total_one, untrue}
pub use Rattle.lpis_edge_sums.proofs.MakingLemmas.{area_as_parts, turns_as_parts}
