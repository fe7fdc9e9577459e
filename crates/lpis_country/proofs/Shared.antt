-- The lemmas that the crates above cite, passed on from one place. Declares nothing.
pub use Rattle.lpis_country.proofs.BoxLemmas.{IsPointIn, box_covers}
pub use Rattle.lpis_country.proofs.CountryLemmas.{country_is_region, country_snoc, fresh_pieces, old_pieces, region_grows}
pub use Rattle.lpis_country.proofs.FittingLemmas.{FitsCountry, IsLate, IsThere, country_is_sound, country_is_union}
pub use Rattle.lpis_country.proofs.IdLemmas.{has_among}
pub use Rattle.lpis_country.proofs.OutsideLemmas.{in_its_box}
pub use Rattle.lpis_country.proofs.PieceLemmas.{pieces_add}
