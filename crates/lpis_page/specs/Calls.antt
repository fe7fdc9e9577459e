-- What a call of the library hands over for the bytes that it was handed.
use Rattle.std.specs.Prelude.{◌≡◌, ◌<◌, ◌⊎◌, ℕ, List, MatchOption, Some, [], length}
use Rattle.lpis_release.specs.Release.{release_of}
use Rattle.lpis_run_check.specs.AreaAnswer.{area_answer}
use Rattle.lpis_run.specs.CheckAnswer.{Inputs, IsAnswer, IsProved}
use Rattle.lpis_run_check.specs.CutAnswer.{IsCutAnswer}
use Rattle.lpis_run.specs.Outputs.{Outputs}
use Rattle.lpis_run.specs.Status.{done}

-- the inputs of a check, by the bytes of the four files
abbrev pub inputs : (parcels covers classes cert : List ℕ) → Inputs
inputs parcels covers classes cert = record {
  tables = record { parcels = parcels; covers = covers; classes = classes };
  cert = Some cert;
}

-- the status and the text are the answer to these inputs; a yes comes only for a release that is a
-- sound map, and a certificate that is good for it
abbrev pub IsCheckOf : Inputs → ℕ → List ℕ → Type 0
IsCheckOf x status text = IsAnswer x (text, status) × (status ≡ done → IsProved x)

-- the status and the text are the areas of a table, or the line of its first fault
abbrev pub IsAreaOf : List ℕ → ℕ → List ℕ → Type 0
IsAreaOf table status text = (text, status) ≡ area_answer table

-- the status, the certificate's text, if there is one, else nothing, and the line are an answer to
-- these tables
abbrev pub IsCutOf : (parcels covers classes : List ℕ) → ℕ → (cert line : List ℕ) → Type 0
IsCutOf parcels covers classes status cert line =
    (a : Outputs) × IsCutAnswer (release_of parcels covers classes) a × (status ≡ a.status)
    × (line ≡ a.line) × MatchOption a.cert (cert ≡ []) (λ text. cert ≡ text)

-- no length was given, or it is that of the text of an answer, which a room is too small for
abbrev pub IsUnansweredOr : (ℕ → List ℕ → Type 0) → (room given : ℕ) → Type 0
IsUnansweredOr IsAnswered room given =
    (given ≡ 0)
    ⊎ ((status : ℕ) × (text : List ℕ) × IsAnswered status text × (given ≡ length text)
    × (room < given))

-- the same of a certificate and a line, of which one is longer than its room
abbrev pub IsUncutOr : (ℕ → (cert line : List ℕ) → Type 0) → (cert_room room cert_given given : ℕ)
    → Type 0
IsUncutOr IsAnswered cert_room room cert_given given =
    ((cert_given ≡ 0) × (given ≡ 0))
    ⊎ ((status : ℕ) × (cert line : List ℕ) × IsAnswered status cert line
    × (cert_given ≡ length cert) × (given ≡ length line)
    × ((cert_room < cert_given) ⊎ (room < given)))
