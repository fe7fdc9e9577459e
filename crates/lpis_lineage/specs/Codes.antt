-- The codes of lineage.
use Rattle.std.specs.Prelude.{ℕ, List, codes}
use Rattle.lpis_lineage.specs.declared.fault.LineageCode.{LineageCode}
use Rattle.lpis_lineage.specs.declared.fault.LineageCode.TheVariants as code

-- the two characters of a code
abbrev pub lineage_code_text : LineageCode → List ℕ
lineage_code_text code.OldNotLive = codes "70"
lineage_code_text code.OldStillLive = codes "71"
lineage_code_text code.SuccessorMissing = codes "72"
lineage_code_text code.DoubledRow = codes "73"
lineage_code_text code.EndingBesideSuccessor = codes "74"
lineage_code_text code.NoRow = codes "75"
lineage_code_text code.UsedBefore = codes "76"
lineage_code_text code.MarkedOutside = codes "78"
