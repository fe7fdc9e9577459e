-- The codes of faults.
use Rattle.std.specs.Prelude.{ℕ, List, codes}
use Rattle.lpis_wkt.specs.declared.fault.WktCode.{WktCode}
use Rattle.lpis_wkt.specs.declared.fault.WktCode.TheVariants.{Keyword, Empty, Dimension, NotANumber}
use Rattle.lpis_wkt.specs.declared.fault.WktCode.TheVariants.{TooFine, OutOfRange, TooFewPoints}
use Rattle.lpis_wkt.specs.declared.fault.WktCode.TheVariants.{NotClosed, Syntax, TooManyPoints}

-- the two characters of a code
abbrev pub wkt_code_text : WktCode → List ℕ
wkt_code_text Keyword = codes "10"
wkt_code_text Empty = codes "11"
wkt_code_text Dimension = codes "12"
wkt_code_text NotANumber = codes "13"
wkt_code_text TooFine = codes "14"
wkt_code_text OutOfRange = codes "15"
wkt_code_text TooFewPoints = codes "16"
wkt_code_text NotClosed = codes "17"
wkt_code_text Syntax = codes "18"
wkt_code_text TooManyPoints = codes "19"
