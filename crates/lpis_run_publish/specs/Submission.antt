-- What is handed in: the tables of a release, a table of lineage, and the text of a certificate
-- where one is named; and what they say.
use Rattle.std.specs.Prelude.{◌≡◌, ℕ, List, Option, Ok}
use Rattle.lpis_tables.specs.Faults.{rows_of}
use Rattle.lpis_release.specs.Release.{Contents}
use Rattle.lpis_cert.specs.declared.cert.Cert.{Cert}
use Rattle.lpis_lineage.specs.declared.row.Row.{Row}
use Rattle.lpis_lineage.specs.LineageTable.{lineage_table}
use Rattle.lpis_run.specs.CheckAnswer.{Answer, AreRead, IsInputAnswer, IsTableAnswer}
use Rattle.lpis_run.specs.Inputs.{Say}
use Rattle.lpis_run.specs.Streams.{IsRead, Known}
use Rattle.lpis_run.specs.declared.folder.Submission.{Submission}

-- ---- what is read
-- the bytes of a release, of a certificate where one is named, and of a lineage table
abbrev pub SubmissionInputs : Type 0
SubmissionInputs = Submission (List ℕ)

-- the submission has these bytes
pub record AreAllRead (x : SubmissionInputs) (given : Submission Known) : Type 0 where
  pub of_checked : AreRead x.folder given.folder
  pub of_lineage : IsRead x.lineage given.lineage

-- ---- what it says
-- a release, its certificate where one is named, and its rows of lineage
pub record Submitted : Type 0 where
  pub release : Contents
  pub cert : Option Cert
  pub rows : List Row

abbrev pub submitted : Contents → Option Cert → List Row → Submitted
submitted release cert rows = record { release = release; cert = cert; rows = rows }

-- the submission says these
pub record IsSubmitted (x : SubmissionInputs) (said : Submitted) : Type 0 where
  pub of_checked : Say x.folder said.release said.cert
  pub of_lineage : rows_of lineage_table x.lineage ≡ Ok said.rows

-- the line of the first fault: of the release's tables, else of the certificate's text, else of the
-- lineage table; or the answer to what these say
abbrev pub IsSubmissionAnswer : (Submitted → Answer → Type 0) → SubmissionInputs → Answer
    → Type 0
IsSubmissionAnswer IsNext x =
    IsInputAnswer (λ r named. IsTableAnswer (λ rows. IsNext (submitted r named rows))
    (rows_of lineage_table x.lineage)) x.folder
