-- What a command line that asks for no command ends in.
use Rattle.std.specs.Prelude.{ℕ, Bool, if◌then◌else◌, Result, Ok, Err}
use Rattle.clap.specs.declared.error.ErrorKind.{ErrorKind}
use Rattle.clap.specs.declared.error.ErrorKind.TheVariants as kind
use Rattle.lpis_run.specs.Status.{done, unreadable}
use Rattle.lpis_run.specs.declared.failure.Failure.{Failure}
use Rattle.lpis_run.specs.declared.failure.Failure.TheVariants.{Memory, Write}
use Rattle.lpis_run.specs.declared.failure.Name.TheVariants.{Out}

-- of a command line that asks for no command, whose text was printed or could not be; help that was
-- asked for is done where it was printed
abbrev pub usage_told : ErrorKind → Bool → Result ℕ Failure
usage_told kind.OutOfMemory printed = Err Memory
usage_told kind.DisplayHelp printed = if printed then Ok done else Err (Write Out)
usage_told kind.DisplayVersion printed = if printed then Ok done else Err (Write Out)
usage_told _ printed = Ok unreadable
