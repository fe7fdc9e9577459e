-- The names that most proofs of this crate cite, passed on from one place. Declares nothing.
pub use Rattle.csv.proofs.WriteFacts.{appends-more}
pub use Rattle.std.specs.Io.KnownBytes.{Appends}
