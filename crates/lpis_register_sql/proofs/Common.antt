-- The names that most proofs of this crate cite, passed on from one place. Declares nothing.
pub use Rattle.sqlite.specs.Held.{state}
pub use Rattle.sqlite.specs.State.{HasCleanDisk, State, Survives}
pub use Rattle.sqlite.specs.declared.error.Error.{Error}
