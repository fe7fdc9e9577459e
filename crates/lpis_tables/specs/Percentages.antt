-- Percentages, and how a row of the classes table gives one.
use Rattle.std.specs.Prelude.{◌&&◌, ◌==◌, ◌+◌, ◌-◌, ◌*◌, ◌∷◌, not, ℕ, List, [], codes}
use Rattle.std.specs.Prelude.{Option, None, Some, Result, if◌then◌else◌}
use Rattle.std.specs.Char.{is_ascii_digit}
use Rattle.std.specs.Option.{ok_or}
use Rattle.std.specs.Str.{bytes_eq}
use Rattle.lpis_tables.specs.declared.fault.TableCode.{TableCode}
use Rattle.lpis_tables.specs.declared.fault.TableCode.TheVariants.{BadEligible, BadPercent}

-- the whole of an area, in percent
abbrev pub most_percent : ℕ
most_percent = 100

-- the value of the digits 0 (48) to 9
abbrev pub digit : ℕ → ℕ
digit byte = byte - 48

-- the percentage that a text spells: a whole number from 0 to 100, no sign and no leading zeros
abbrev pub percent_in : List ℕ → Option ℕ
percent_in [] = None
percent_in (a ∷ []) = if is_ascii_digit a then Some (digit a) else None
percent_in (a ∷ b ∷ []) =
    if (is_ascii_digit a && not (a == 48)) && is_ascii_digit b then Some (digit a * 10 + digit b)
    else None
percent_in (a ∷ b ∷ c ∷ more) =
    if bytes_eq (a ∷ b ∷ c ∷ more) (codes "100") then Some most_percent else None

-- the same of a mark: `0` is none, and `1` the whole
abbrev pub percent_of_mark : List ℕ → Option ℕ
percent_of_mark text =
    if bytes_eq text (codes "0") then Some 0 else
    (if bytes_eq text (codes "1") then Some most_percent else None)

-- the percentage of a row, or its fault: that of the field `percent`, and where there is no such
-- column that of the mark `eligible`
abbrev pub percentage_in : Option (List ℕ) → List ℕ → Result ℕ TableCode
percentage_in (Some percent) eligible = ok_or (percent_in percent) BadPercent
percentage_in None eligible = ok_or (percent_of_mark eligible) BadEligible
