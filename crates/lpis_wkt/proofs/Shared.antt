-- What the proofs of the crates above cite, passed on from one place. Declares nothing.
pub use Rattle.lpis_wkt.proofs.DigitLemmas.{value-ge}
pub use Rattle.lpis_wkt.proofs.SplittingLemmas.{whole_word}
pub use Rattle.lpis_wkt.specs.private.Runs.{AllWord, Stops, is_word}
