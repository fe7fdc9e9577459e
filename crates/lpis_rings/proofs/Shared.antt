-- The lemmas that the crates above cite, passed on from one place. Declares nothing.
pub use Rattle.lpis_rings.proofs.AreaByEdgesLemmas.{area2_is}
pub use Rattle.lpis_rings.proofs.AreaByTrianglesLemmas.{area_is_of_its_pieces, area_is_positive}
pub use Rattle.lpis_rings.proofs.CoveringLemmas.{parcel_is_its_pieces, piece_turns, pieces_share_nothing}
pub use Rattle.lpis_rings.proofs.EdgeCountLemmas.{edges_few}
pub use Rattle.lpis_rings.proofs.ParityLemmas.{contains_by_one_turn}
