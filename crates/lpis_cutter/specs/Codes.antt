-- The codes of refusals.
use Rattle.std.specs.Prelude.{ℕ, List, codes}
use Rattle.lpis_cutter.specs.declared.fault.Refusal.{Refusal}
use Rattle.lpis_cutter.specs.declared.fault.Refusal.TheVariants.{NoCut, ParcelsOverlap}
use Rattle.lpis_cutter.specs.declared.fault.Refusal.TheVariants.{PiecesOverlap, NoSeparator}
use Rattle.lpis_cutter.specs.declared.fault.Refusal.TheVariants.{Disagreement, NoFlats}

-- the two characters of a code
abbrev pub cut_code_text : Refusal → List ℕ
cut_code_text (NoCut piece) = codes "40"
cut_code_text (ParcelsOverlap first second at) = codes "41"
cut_code_text (PiecesOverlap first second at) = codes "41"
cut_code_text (NoSeparator first second) = codes "42"
cut_code_text (Disagreement parcel at) = codes "43"
cut_code_text (NoFlats parcel) = codes "44"
