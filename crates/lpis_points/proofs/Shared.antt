-- The lemmas that the crates above cite, passed on from one place. Declares nothing.
pub use Rattle.lpis_points.proofs.ApartBoxLemmas.{apart_share_nothing}
pub use Rattle.lpis_points.proofs.ChainLemmas.{chain_lemma, edge_sum-append, int_sum_by-append, int_sum_by-flat_map, int_sum_by-more, int_sum_by-not_neg, int_sum_by-same}
pub use Rattle.lpis_points.proofs.CrossingLemmas.{both_above, both_below, down_not_right, down_right, up_left, up_not_left}
pub use Rattle.lpis_points.proofs.IntRingLemmas.{var, ◌⊕◌, ◌⊖◌, ◌⊗◌, ring}
pub use Rattle.lpis_points.proofs.NetCountLemmas.{reversed_count}
pub use Rattle.lpis_points.proofs.OddLemmas.{crossing-cases, crossing-odd, crossing-small, shoelace_term-odd}
pub use Rattle.lpis_points.proofs.OwnEdgeLemmas.{own_edge_separates}
pub use Rattle.lpis_points.proofs.PointLemmas.{point_eq, same_point-equality}
pub use Rattle.lpis_points.proofs.SeparationLemmas.{separated_share_nothing}
pub use Rattle.lpis_points.proofs.ShiftLemmas.{crossing-shifted, shifted_off}
pub use Rattle.lpis_points.proofs.SignLemmas.{neg-mul-not_neg, neg-mul-not_pos, neg-mul-pos, not_neg_of_mul, not_pos_of_mul, pos-mul-not_neg, pos-mul-not_pos, pos-mul-pos}
pub use Rattle.lpis_points.proofs.SmallProductLemmas.{small_product}
pub use Rattle.lpis_points.proofs.TriangleLemmas.{corners_differ, flats_never_turn, terms_sum, turns_round-is}
