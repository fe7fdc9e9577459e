-- The versions of the text.
use Rattle.std.specs.Prelude.{ℕ, suc, ◌/◌, ℤ, pos, negsuc, neg_ℤ, nat_abs, cond, List, codes}
use Rattle.std.specs.Prelude.{Option, Some, None, Bool, true, false}
use Rattle.std.specs.Str.{bytes_eq}
use Rattle.lpis_points.specs.Range.{limit}
use Rattle.lpis_cert.specs.declared.version.Version.{Version}
use Rattle.lpis_cert.specs.declared.version.Version.TheVariants.{One, Two}

-- the first line, without its line end
abbrev pub first_line : Version → List ℕ
first_line One = codes "lpis-cert 1"
first_line Two = codes "lpis-cert 2"

-- the version that a first line names
abbrev pub version_named : List ℕ → Option Version
version_named line = cond (bytes_eq line (first_line One)) (Some One)
    (cond (bytes_eq line (first_line Two)) (Some Two) None)

-- the greatest absolute value of a coordinate as it is written
abbrev pub greatest_in_version : Version → ℕ
greatest_in_version One = 2000000000
greatest_in_version Two = nat_abs limit

-- the millimetres of one unit of a coordinate as it is written
abbrev pub factor : Version → ℕ
factor One = 10
factor Two = 1

-- a coordinate in millimetres as it is written
abbrev pub units : Version → ℤ → ℤ
units One (pos n) = pos (n / 10)
units One (negsuc n) = neg_ℤ (pos (suc n / 10))
units Two z = z

-- whether its texts can have blocks of exact splits and merges
abbrev pub has_exact : Version → Bool
has_exact One = false
has_exact Two = true

-- the version that is written
abbrev pub written : Version
written = Two
