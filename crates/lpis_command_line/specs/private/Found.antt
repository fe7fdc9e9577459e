-- The words of an argument that may be left out, and a job that may be another command.
use Rattle.std.specs.Prelude.{◌≡◌, List, Option, Some, codes, map, option_map}
use Rattle.std.specs.Borrow.{Bor}
use Rattle.clap.specs.Words.{Row, Text, all_of, first_of}
use Rattle.lpis_command_line.specs.Commands.{IsJobNamed}
use Rattle.lpis_command_line.specs.declared.commands.Request.{Request}
use Rattle.lpis_command_line.specs.declared.commands.Request.TheVariants.{InRegister}

-- the argument has this word, or none where it is not there
abbrev pub IsWord : Text → Option (Bor Text) → List Row → Type 0
IsWord id word rows = first_of id rows ≡ option_map (λ w. w.now) word

-- the same of all its words
abbrev pub AreWords : Text → Option (Bor (List (Bor Text))) → List Row → Type 0
AreWords id words rows = all_of id rows ≡ option_map (λ ws. map (λ w. w.now) ws.now) words

-- the request is the job of this name in a register, with its words
abbrev pub IsInRegister : Request → Text → List Row → Type 0
IsInRegister (InRegister db job) name rows =
    (first_of (codes "db") rows ≡ Some db.now) × IsJobNamed job name rows
IsInRegister other name rows = ⊥
