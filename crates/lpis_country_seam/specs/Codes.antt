-- The codes of what is wrong between regions.
use Rattle.std.specs.Prelude.{ℕ, List, codes}
use Rattle.lpis_country_seam.specs.declared.fault.SeamCode.{SeamCode}
use Rattle.lpis_country_seam.specs.declared.fault.SeamCode.TheVariants.{Elsewhere, Reused}
use Rattle.lpis_country_seam.specs.declared.fault.SeamCode.TheVariants.{Differs, Lacks}

-- the two characters of a code
abbrev pub seam_code_text : SeamCode → List ℕ
seam_code_text Elsewhere = codes "92"
seam_code_text Reused = codes "93"
seam_code_text Differs = codes "94"
seam_code_text Lacks = codes "95"

-- the code of classes that differ
abbrev pub classes_code_text : List ℕ
classes_code_text = codes "96"
