-- The first fault of a text, line by line.
use Rattle.std.specs.Prelude.{◌≡◌, ℕ, zero, suc, pred, ◌+◌, ◌==◌, Bool, cond, ◌&&◌, ◌||◌, ℤ}
use Rattle.std.specs.Prelude.{nat_abs, nat_le, List, [], ◌∷◌, ◌++◌, length, take, drop, codes}
use Rattle.std.specs.Prelude.{Option, Some, None, option_map}
use Rattle.std.specs.Fmt.{signed_decimal}
use Rattle.std.specs.List.{list_any, slice_split}
use Rattle.std.specs.Str.{bytes_eq}
use Rattle.std.specs.Str.Parse.{signed_digits_value}
use Rattle.lpis_points.specs.Range.{limit}
use Rattle.lpis_country.specs.declared.fault.PlanFault.{PlanFault}
use Rattle.lpis_country.specs.declared.fault.PlanFault.TheVariants.{Memory, At}
use Rattle.lpis_country.specs.Limits.{most_regions}
use Rattle.lpis_country.specs.CountryText.{TreeLine, x_line, y_line, region_line}
use Rattle.lpis_country.specs.CountryText.{country_head, is_region_name}

-- ---- what one line says

-- the number that the word's digits write, where it is in range and the word is its text
unfoldable pub coordinate_in : List ℕ → Option ℤ
coordinate_in w = cond (bytes_eq w (signed_decimal (signed_digits_value 10 w))
    && nat_le (nat_abs (signed_digits_value 10 w)) (nat_abs limit))
    (Some (signed_digits_value 10 w)) None

abbrev pub name_in : List ℕ → Option (List ℕ)
name_in w = cond (is_region_name w) (Some w) None

abbrev pub begins_with : List ℕ → List ℕ → Bool
begins_with line start = bytes_eq (take (length start) line) start

-- a cut and its coordinate, or a region and its name
unfoldable pub tree_line : List ℕ → Option TreeLine
tree_line line =
    cond (begins_with line (codes "x ")) (option_map x_line (coordinate_in (drop 2 line)))
    (cond (begins_with line (codes "y ")) (option_map y_line (coordinate_in (drop 2 line)))
    (cond (begins_with line (codes "region ")) (option_map region_line (name_in (drop 7 line)))
    None))

-- ---- which line can stand

-- how far a text has come: the parts that are still owed, and the names so far
pub record Owing : Type 0 where
  pub owed : ℕ
  pub names : List (List ℕ)

-- at first the whole country is owed
abbrev pub owing_first : Owing
owing_first = record { owed = 1; names = [] }

-- a cut has two parts in place of one; a region is the part that was owed next, if its name is new
-- and it is not one region too many
abbrev pub owing_after : Owing → TreeLine → Option Owing
owing_after o (x_line c) = Some (record { owed = suc o.owed; names = o.names })
owing_after o (y_line c) = Some (record { owed = suc o.owed; names = o.names })
owing_after o (region_line name) =
    cond (list_any (bytes_eq name) o.names || nat_le most_regions (length o.names)) None
    (Some (record { owed = pred o.owed; names = o.names ++ (name ∷ []) }))

abbrev pub owing_after_line : Owing → Option TreeLine → Option Owing
owing_after_line o None = None
owing_after_line o (Some l) = owing_after o l

abbrev pub where_owed : ℕ → Option Owing → Option Owing
where_owed zero next = None
where_owed (suc k) next = next

-- what is owed after a line more, or none where the line can't stand
unfoldable pub owing_with : Owing → List ℕ → Option Owing
owing_with o line = where_owed o.owed (owing_after_line o (tree_line line))

-- ---- the first fault

abbrev pub is_line_feed : ℕ → Bool
is_line_feed b = b == 10

-- the lines of a text, and last what comes after its last line feed
abbrev pub plan_lines : List ℕ → List (List ℕ)
plan_lines text = slice_split is_line_feed text

-- line n, where it can't stand, or else what comes after it
abbrev pub or_line : ℕ → Option Owing → (Owing → Option ℕ) → Option ℕ
or_line n None next = Some n
or_line n (Some o) next = next o

-- the number of the first line, from line n on, at which the text is none of a country, if there is
-- one: it can't stand, or the text ends there though a part is owed, or without a line feed
unfoldable pub plan_fault_from : ℕ → Owing → List (List ℕ) → Option ℕ
plan_fault_from n o [] = Some n
plan_fault_from n o (rest ∷ []) = cond (o.owed == 0 && length rest == 0) None (Some n)
plan_fault_from n o (l ∷ m ∷ ls) =
    or_line n (owing_with o l) (λ p. plan_fault_from (n + 1) p (m ∷ ls))

-- the same of all lines
unfoldable pub plan_fault_of : List (List ℕ) → Option ℕ
plan_fault_of [] = Some 1
plan_fault_of (rest ∷ []) = Some 1
plan_fault_of (l ∷ m ∷ ls) =
    cond (bytes_eq l country_head) (plan_fault_from 2 owing_first (m ∷ ls)) (Some 1)

-- the line of the first fault of a text, if it has one
abbrev pub plan_fault : List ℕ → Option ℕ
plan_fault text = plan_fault_of (plan_lines text)

-- what a reader may answer in place of a plan
abbrev pub IsFirstPlanFault : PlanFault → List ℕ → Type 0
IsFirstPlanFault Memory text = Unit {0}
IsFirstPlanFault (At line) text = plan_fault text ≡ Some line
