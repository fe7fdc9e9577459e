-- What the reader has taken from the front of a text.
use Rattle.std.specs.Prelude.{ℕ, ◌+◌, ◌≡◌, ◌⊎◌, Bool, cond, List, [], ◌∷◌, ◌++◌, length, Ok, Err}
use Rattle.lpis_memory.specs.Memory.{UnlessMemory}
use Rattle.lpis_cert.specs.declared.kind.Stage.{Stage}
use Rattle.lpis_cert.specs.declared.fault.CertCode.{CertCode}
use Rattle.lpis_cert.specs.declared.fault.CertCode.TheVariants as code
use Rattle.lpis_cert.specs.declared.fault.CertFault.{CertFault}
use Rattle.lpis_cert.specs.declared.kind.Kind.{Kind}
use Rattle.lpis_cert.specs.declared.kind.Kind.TheVariants as kind
use Rattle.lpis_cert.specs.declared.kind.Expected.{Expected}
use Rattle.std.specs.List.{AllByRecursion}
use Rattle.lpis_cert.specs.CertText.{Corners, CertLine, TriangleLine, FlatLine, text_of_lines}
use Rattle.lpis_cert.specs.Fitting.{LineFits}
use Rattle.lpis_cert.specs.declared.version.Version.{Version}
use Rattle.lpis_cert.specs.Reading.{kind_placed, read_line}
use Rattle.lpis_cert.specs.Faults.{lines, lines_outcome, cert_fault_reported, LineState, InBody}
use Rattle.lpis_cert.specs.Faults.{Declared}

-- line n of the text is this line, and the rest begins with line m
pub record TakesLine (text : List ℕ) (n : ℕ) (line rest : List ℕ) (m : ℕ) : Type 0 where
  pub parts : text ≡ line ++ (10 ∷ rest)
  pub split : lines text ≡ line ∷ lines rest
  pub next : m ≡ n + 1

-- a line of this kind and further words
pub record Placed (v : Version) (e : Expected) (text : List ℕ) (n : ℕ) (k : Kind)
    (ws : List (List ℕ)) (rest : List ℕ) (m : ℕ) : Type 0 where
  pub line : List ℕ
  pub takes : TakesLine text n line rest m
  pub placed : kind_placed v e line ≡ Ok (k, ws)

-- the first line of a text has this fault
abbrev pub FailsWith : Version → Expected → List ℕ → CertCode → Type 0
FailsWith v e text c = ((lines text ≡ text ∷ []) × (c ≡ code.Truncated))
    ⊎ ((line : List ℕ) × (rest : List ℕ) × (lines text ≡ line ∷ lines rest)
    × (read_line v e line ≡ Err c))

abbrev pub LineFault : Version → CertFault → ℕ → Expected → List ℕ → Type 0
LineFault v fault n e text =
    UnlessMemory (λ (r : CertCode × ℕ). (r.1 ≡ n)
    × FailsWith v e text r.0) (cert_fault_reported fault)

-- these lines, from line n on, and then the rest, from line m on
pub record ReadsLines (v : Version) (text : List ℕ) (n : ℕ) (ls : List CertLine) (rest : List ℕ)
    (m : ℕ) : Type 0
  where
    pub parts : text ≡ text_of_lines v ls ++ rest
    pub fits : AllByRecursion (LineFits v) ls
    pub next : m ≡ n + length ls

-- the first fault from here on
abbrev pub FaultFrom : Version → CertFault → ℕ → LineState → List ℕ → Type 0
FaultFrom v fault n p text =
    UnlessMemory (λ (r : CertCode × ℕ). lines_outcome v n p (lines text)
    ≡ Err r) (cert_fault_reported fault)

-- ---- triangle lines and flat lines

abbrev pub corner_kind : Bool → Kind
corner_kind flat = cond flat kind.Flat kind.Triangle

abbrev pub corner_line : Bool → Corners → CertLine
corner_line flat c = cond flat (FlatLine c) (TriangleLine c)

-- n more triangle lines, or n more flat lines
abbrev pub wanting : Bool → ℕ → Stage → ℕ → Declared → LineState
wanting flat n b f d = cond flat (InBody b 0 n d) (InBody b n f d)

-- the text begins with this word and then this byte
abbrev pub BeginsWithWord : List ℕ → List ℕ → ℕ → List ℕ → Type 0
BeginsWithWord text word end rest = text ≡ word ++ (end ∷ rest)
