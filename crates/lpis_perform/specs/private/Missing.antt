-- A file that is opened where there is one.
use Rattle.std.specs.Prelude.{◌≡◌, ℕ, List, None, Option, Some}
use Rattle.lpis_command_line.specs.Files.{path_of}
use Rattle.lpis_command_line.specs.declared.files.NamedFile.{NamedFile}
use Rattle.lpis_run.specs.Streams.{Known}
use Rattle.lpis_perform.specs.Opening.{bytes_of}
use Rattle.lpis_perform.specs.Standing.{MayBeAbsent, Standing}

-- what is opened of a file that may be missing: its bytes, or nothing where there may be none
abbrev pub IsOpenIfThere : (List ℕ → Standing) → NamedFile → Option Known → Type 0
IsOpenIfThere at i None = MayBeAbsent (at (path_of i))
IsOpenIfThere at i (Some bytes) = bytes ≡ bytes_of at i
