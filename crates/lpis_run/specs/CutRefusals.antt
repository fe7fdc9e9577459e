-- The lines of releases that get no certificate.
use Rattle.std.specs.Prelude.{ℕ, List, ◌++◌, codes}
use Rattle.std.specs.Fmt.{signed_decimal}
use Rattle.lpis_points.specs.declared.rational.RatPoint.{RatPoint}
use Rattle.lpis_cutter.specs.Codes.{cut_code_text}
use Rattle.lpis_cutter.specs.declared.fault.Refusal.{Refusal}
use Rattle.lpis_cutter.specs.declared.fault.Refusal.TheVariants.{NoCut, ParcelsOverlap}
use Rattle.lpis_cutter.specs.declared.fault.Refusal.TheVariants.{PiecesOverlap, NoSeparator}
use Rattle.lpis_cutter.specs.declared.fault.Refusal.TheVariants.{Disagreement, NoFlats}

-- a point by its three numbers: it is (x/d, y/d), in millimetres
abbrev pub rational_text : RatPoint → List ℕ
rational_text p = codes " at " ++ signed_decimal p.x ++ codes " " ++ signed_decimal p.y ++ codes " "
    ++ signed_decimal p.d

-- what is named by its identifiers, and the point where one is reported
abbrev pub named_text : Refusal → List ℕ
named_text (NoCut piece) = codes "piece " ++ piece
named_text (ParcelsOverlap first second at) = codes "parcels " ++ first ++ codes " " ++ second
    ++ rational_text at
named_text (PiecesOverlap first second at) = codes "pieces " ++ first ++ codes " " ++ second
    ++ rational_text at
named_text (NoSeparator first second) = codes "pieces " ++ first ++ codes " " ++ second
named_text (Disagreement parcel at) = codes "parcel " ++ parcel ++ rational_text at
named_text (NoFlats parcel) = codes "parcel " ++ parcel

-- of a release that gets no certificate: the code and what is named
abbrev pub cut_refusal_text : Refusal → List ℕ
cut_refusal_text refusal =
    codes "refused " ++ cut_code_text refusal ++ codes " " ++ named_text refusal
    ++ codes "\n"
