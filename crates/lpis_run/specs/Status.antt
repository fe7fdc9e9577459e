-- The statuses of the program.
use Rattle.std.specs.Prelude.{ℕ, Result, Ok, Err}
use Rattle.lpis_run.specs.declared.failure.Failure.{Failure}

-- a yes, or done
abbrev pub done : ℕ
done = 0

-- refused by the gate
abbrev pub refused : ℕ
refused = 1

-- an input that cannot be read as what it should be, or a command line that is none
abbrev pub unreadable : ℕ
unreadable = 2

-- memory, a file or the store failed
abbrev pub failed : ℕ
failed = 3

-- the status that the program ends with, of what a run answered
abbrev pub status_told : Result ℕ Failure → ℕ
status_told (Ok status) = status
status_told (Err failure) = failed
