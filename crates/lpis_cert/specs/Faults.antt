-- The first fault of a text, line by line.
use Rattle.std.specs.Prelude.{◌≡◌, ℕ, zero, suc, ◌+◌, Bool, cond, ◌&&◌, ◌==◌, List, [], ◌∷◌, length}
use Rattle.std.specs.Prelude.{Option, Some, None, Result, Ok, Err, nat_le}
use Rattle.std.specs.List.{slice_split}
use Rattle.lpis_memory.specs.Memory.{UnlessMemory}
use Rattle.lpis_cert.specs.declared.kind.Stage.{Stage}
use Rattle.lpis_cert.specs.declared.kind.Stage.TheVariants as stage
use Rattle.lpis_cert.specs.declared.fault.CertCode.{CertCode}
use Rattle.lpis_cert.specs.declared.fault.CertCode.TheVariants as code
use Rattle.lpis_cert.specs.declared.fault.CertFault.{CertFault}
use Rattle.lpis_cert.specs.declared.fault.CertFault.TheVariants.{Memory, At}
use Rattle.lpis_cert.specs.declared.kind.Kind.TheVariants as kind
use Rattle.lpis_cert.specs.declared.kind.Expected.TheVariants.{One, Block}
use Rattle.lpis_cert.specs.CertText.{CertLine, PieceLine, ParcelLine, ExactLine, PairsLine}
use Rattle.lpis_cert.specs.Limits.{most_flats}
use Rattle.lpis_points.specs.Triangles.{most_triangles}
use Rattle.lpis_cert.specs.declared.version.Version.{Version}
use Rattle.lpis_cert.specs.Versions.{version_named}
use Rattle.lpis_cert.specs.Reading.{◌>>=◌, read_line}

-- the triangles and the flats declared so far
pub record Declared : Type 0 where
  pub triangles : ℕ
  pub flats : ℕ

abbrev pub none_declared : Declared
none_declared = record { triangles = 0; flats = 0 }

-- What can stand next: in a body, which blocks may begin, and the triangle lines and flat lines
-- that the block still wants; in the pairs, the lines that are still wanted.
pub data LineState : Type 0 where
  InBody : Stage → ℕ → ℕ → Declared → LineState
  InPairs : ℕ → LineState
  AtEnd : LineState

abbrev pub within : Declared → LineState → Result LineState CertCode
within d next = cond (nat_le d.triangles most_triangles && nat_le d.flats most_flats) (Ok next)
    (Err code.TooMany)

abbrev pub grow : Declared → ℕ → ℕ → Declared
grow d t f = record { triangles = d.triangles + t; flats = d.flats + f }

abbrev pub grow_flats : Declared → ℕ → Declared
grow_flats d f = record { triangles = d.triangles; flats = d.flats + f }

-- the state after the first line
abbrev pub first_state : LineState
first_state = InBody stage.Pieces 0 0 none_declared

-- the state after a block's first line
abbrev pub open_block : Declared → CertLine → Result LineState CertCode
open_block d (PieceLine id t f) = within (grow d t f) (InBody stage.Pieces t f (grow d t f))
open_block d (ParcelLine id f) = within (grow_flats d f) (InBody stage.Parcels 0 f (grow_flats d f))
open_block d (ExactLine m id f) = within (grow_flats d f) (InBody stage.Exacts 0 f (grow_flats d f))
open_block d (PairsLine n) = Ok (InPairs n)
open_block d _ = Err code.BadPlace

-- the state after a line of a version's text, or the line's fault
unfoldable pub line_step : Version → LineState → List ℕ → Result LineState CertCode
line_step v (InBody b (suc t) f d) line = read_line v (One kind.Triangle) line >>= λ _. Ok
    (InBody b t f d)
line_step v (InBody b zero (suc f) d) line = read_line v (One kind.Flat) line >>= λ _. Ok
    (InBody b zero f d)
line_step v (InBody b zero zero d) line = read_line v (Block b) line >>= open_block d
line_step v (InPairs (suc n)) line = read_line v (One kind.Pair) line >>= λ _. Ok (InPairs n)
line_step v (InPairs zero) line = read_line v (One kind.End) line >>= λ _. Ok AtEnd
line_step v AtEnd line = Err code.TextAfterEnd

abbrev pub is_lf : ℕ → Bool
is_lf b = b == 10

-- the lines of a text, and last what comes after its last line end
abbrev pub lines : List ℕ → List (List ℕ)
lines text = slice_split is_lf text

-- what comes after the last line end
unfoldable pub at_last : ℕ → LineState → List ℕ → Result ℕ (CertCode × ℕ)
at_last n (InBody b t f d) rest = Err (code.Truncated, n)
at_last n (InPairs k) rest = Err (code.Truncated, n)
at_last n AtEnd rest = cond (length rest == 0) (Ok n) (Err (code.TextAfterEnd, n))

abbrev pub at_line : {A : Type 0} → ℕ → Result A CertCode → Result A (CertCode × ℕ)
at_line n (Ok x) = Ok x
at_line n (Err c) = Err (c, n)

-- the first fault of lines from line n on, or no fault (and the number of the line after the last)
unfoldable pub lines_outcome : Version → ℕ → LineState → List (List ℕ) → Result ℕ (CertCode × ℕ)
lines_outcome v n p [] = at_last n p []
lines_outcome v n p (l ∷ []) = at_last n p l
lines_outcome v n p (l ∷ m ∷ ls) =
    at_line n (line_step v p l) >>= λ q. lines_outcome v (n + 1) q (m ∷ ls)

-- the same of the lines after the first, by the version that the first names
abbrev pub outcome_named : Option Version → List (List ℕ) → Result ℕ (CertCode × ℕ)
outcome_named None ls = Err (code.Version, 1)
outcome_named (Some v) ls = lines_outcome v 2 first_state ls

-- the same of all lines; what comes after the last line end is no line
unfoldable pub outcome_of : List (List ℕ) → Result ℕ (CertCode × ℕ)
outcome_of [] = Err (code.Truncated, 1)
outcome_of (l ∷ []) = Err (code.Truncated, 1)
outcome_of (l ∷ m ∷ ls) = outcome_named (version_named l) (m ∷ ls)

-- the first fault of a text
abbrev pub verdict : List ℕ → Result ℕ (CertCode × ℕ)
verdict text = outcome_of (lines text)

-- what a fault reports: its code, and its line
abbrev pub cert_fault_reported : CertFault → Option (CertCode × ℕ)
cert_fault_reported Memory = None
cert_fault_reported (At c n) = Some (c, n)

-- what a reader may answer in place of a certificate
abbrev pub IsFirstFault : CertFault → List ℕ → Type 0
IsFirstFault fault text =
    UnlessMemory (λ (r : CertCode × ℕ). verdict text ≡ Err r) (cert_fault_reported fault)
