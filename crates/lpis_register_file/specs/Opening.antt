-- How a register in files is opened, and how it is not, by what opening its database answered.
use Rattle.std.specs.Prelude.{◌≡◌, ◌≢◌, ◌⊎◌, Option, Result, Ok, Err}
use Rattle.sqlite_disk.specs.declared.Disk.{Ghosts}
use Rattle.sqlite_store.specs.declared.store.FileStore.{FileStore}
use Rattle.sqlite.specs.Files.{over_files}
use Rattle.sqlite.specs.Held.{Held}
use Rattle.sqlite.specs.declared.error.Error.{Error}
use Rattle.sqlite.specs.declared.error.Error.TheVariants.{SqliteFailure}
use Rattle.sqlite.specs.declared.error.ErrorCode.TheVariants.{OutOfMemory}
use Rattle.sqlite.specs.declared.file.Leftover.{Leftover}
use Rattle.lpis_register.specs.FailingToOpen.{HasOpeningCause}
use Rattle.lpis_register.specs.Holdings.{RegisterState}
use Rattle.lpis_register.specs.Opening.{IsOpened, IsUnopened}
use Rattle.lpis_register.specs.declared.fault.PublishFault.{PublishFault}
use Rattle.lpis_register.specs.declared.fault.PublishFault.TheVariants.{Memory, Store}
use Rattle.lpis_register_file.specs.declared.Unopened.{Unopened}
use Rattle.lpis_register_file.specs.declared.Unopened.TheVariants.{Files, Database}

-- the database's want of memory is told as such, and each other error of it as its failure
abbrev pub IsToldAs : Error → PublishFault → Type 0
IsToldAs error fault = ((error ≡ SqliteFailure OutOfMemory) × (fault ≡ Memory))
    ⊎ ((error ≢ SqliteFailure OutOfMemory) × (fault ≡ Store))

module _ {D : Type 0} {g : Ghosts D} where
  -- the database was opened, and no register in it: it is left, and where it failed there is a
  -- cause
  abbrev pub LeavesDatabase : Held (FileStore D g) → PublishFault × Unopened D g → Type 0
  LeavesDatabase opened e = (rest : Held (FileStore D g)) × (e.1 ≡ Database rest)
      × IsUnopened over_files opened rest e.0
      × HasOpeningCause over_files opened rest (e.0 ≡ Store)

  -- a register comes of a database alone, and is what its tables say; where none was opened, its
  -- error is told, and what is left of the files is left
  abbrev pub AnswersOpening : Result (Held (FileStore D g)) (Error × Option (Leftover D g))
      → Result (RegisterState (FileStore D g)) (PublishFault × Unopened D g) → Type 0
  AnswersOpening (Ok opened) (Ok it) =
      IsOpened over_files opened it.conn it.held.history it.held.shapes
  AnswersOpening (Ok opened) (Err e) = LeavesDatabase opened e
  AnswersOpening (Err failed) (Ok it) = ⊥
  AnswersOpening (Err failed) (Err e) = IsToldAs failed.0 e.0 × (e.1 ≡ Files failed.1)
