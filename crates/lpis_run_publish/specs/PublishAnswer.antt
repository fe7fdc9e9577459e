-- The answer to a release that is to be published: text and status, of the year, the bytes of the
-- inputs, and what the register holds before; and what it holds after.
use Rattle.std.specs.Prelude.{◌≡◌, ◌≢◌, ◌⊎◌, ℕ, List, Option, Result}
use Rattle.sqlite_trees.specs.declared.store.Store.{Ghosts}
use Rattle.lpis_cert.specs.declared.cert.Cert.{Cert}
use Rattle.lpis_checker.specs.GoodCertificate.{IsGood}
use Rattle.lpis_checker.specs.SoundMap.{IsSoundMap}
use Rattle.lpis_lineage.specs.declared.row.Row.{Row}
use Rattle.lpis_register.specs.Faults.{IsRefused, IsSetAside}
use Rattle.lpis_register.specs.Holdings.{Candidate, Holdings, RegisterState, candidate}
use Rattle.lpis_register.specs.declared.fault.PublishFault.{PublishFault}
use Rattle.lpis_release.specs.Release.{Contents}
use Rattle.lpis_run.specs.CheckAnswer.{Answer, IsCheckAnswer, IsUsedAnswer}
use Rattle.lpis_run.specs.Inputs.{IsTaken}
use Rattle.lpis_run.specs.declared.failure.Failure.{Failure}
use Rattle.lpis_run.specs.declared.folder.Submission.{Submission}
use Rattle.lpis_run.specs.Failures.{AreUnread}
use Rattle.lpis_run.specs.Folders.{submission_named}
use Rattle.lpis_run.specs.Report.{report_text}
use Rattle.lpis_run.specs.Run.{OfRead, Runs}
use Rattle.lpis_run.specs.Status.{done, refused}
use Rattle.lpis_run.specs.Streams.{Known}
use Rattle.lpis_run_publish.specs.LineageLines.{publish_refusal_text}
use Rattle.lpis_run_publish.specs.Publication.{IsPublicationAnswer, IsReleasePublished}
use Rattle.lpis_run_publish.specs.Stored.{IsStoreFailure, Stays}
use Rattle.lpis_run_publish.specs.Submission.{AreAllRead, IsSubmissionAnswer, IsSubmitted}
use Rattle.lpis_run_publish.specs.Submission.{SubmissionInputs, Submitted}

-- ---- text and status
-- of what is to be published, and what a register holds: the line of what the register refuses, in
-- its order, or what is printed, behind this text, of a release that was published
abbrev pub IsHistoryAnswer : (PublishFault → List ℕ) → List ℕ → Candidate → Holdings → Answer
    → Type 0
IsHistoryAnswer refusal_of head c before a =
    ((fault : PublishFault) × IsRefused c before fault × (IsSetAside fault → ⊥)
    × (a ≡ (refusal_of fault, refused)))
    ⊎ IsPublicationAnswer head c before a

-- what is to be published in a year: a release with rows of lineage and a certificate
abbrev pub candidate_of : ℕ → Contents → List Row → Cert → Candidate
candidate_of year r rows c = candidate year r.parcels c.exact rows

-- of a release with rows of lineage, and the certificate that is used, whose faults come first
abbrev pub IsReleaseAnswer : ℕ → Contents → List Row → Holdings → Cert → Answer → Type 0
IsReleaseAnswer year r rows before c = IsCheckAnswer r c (IsHistoryAnswer publish_refusal_text
    (report_text r) (candidate_of year r rows c) before)

-- the answer to what is to be published in a year: faults of the tables and texts come first; then,
-- where no certificate is named, what the release is refused for that gets none
abbrev pub IsPublishAnswer : ℕ → SubmissionInputs → Holdings → Answer → Type 0
IsPublishAnswer year x before = IsSubmissionAnswer (λ said. IsUsedAnswer said.release
    (IsReleaseAnswer year said.release said.rows before) said.cert) x

-- ---- the register after
-- a release is a sound map, and a certificate is good for it: the one that is named, if one is
pub record IsSoundBy (r : Contents) (named : Option Cert) (c : Cert) : Type 0 where
  pub sound : IsSoundMap r
  pub taken : IsTaken named c
  pub good : IsGood r c

-- what was handed in says a release that is one by this certificate, which is to be published in a
-- year
pub record IsSoundCandidate (year : ℕ) (x : SubmissionInputs) (k : Candidate) : Type 0 where
  pub said : Submitted
  pub submitted : IsSubmitted x said
  pub certificate : Cert
  pub sound : IsSoundBy said.release said.cert certificate
  pub is : k ≡ candidate_of year said.release said.rows certificate

-- which the readers gave, as far as it is known
abbrev pub IsHandedIn : ℕ → Submission Known → Candidate → Type 0
IsHandedIn year given c = OfRead AreAllRead given (λ x. IsSoundCandidate year x c)

-- it was published in a year
abbrev pub IsPublished : ℕ → SubmissionInputs → Holdings → Holdings → Type 0
IsPublished year x before after =
    (k : Candidate) × IsSoundCandidate year x k × IsReleasePublished k before after

-- with the status `done` the release was published, with every other one the register holds what it
-- held before
abbrev pub MovesRegister : ℕ → SubmissionInputs → Holdings → Holdings → ℕ → Type 0
MovesRegister year x before after status = (status ≡ done → IsPublished year x before after)
    × (status ≢ done → after ≡ before)

-- ---- the run
-- in a year, of what the readers will give, over what a register holds before and after
module _ (year : ℕ) (given : Submission Known) (before after : Holdings) where
  -- an answer to what the readers gave, as far as it is known, which is decided, and the register
  -- written, before it is printed
  abbrev pub Publishes : Answer → Type 0
  Publishes a = OfRead AreAllRead given
      (λ x. IsPublishAnswer year x before a × MovesRegister year x before after a.1)

  -- an input was not read, or memory ran out, or the database failed, and the register holds what
  -- it held
  abbrev pub PublishStops : Failure → Type 0
  PublishStops failure =
      (AreUnread (submission_named given) failure ⊎ IsStoreFailure failure) × (after ≡ before)

-- what a run ends with, what it leaves in the database, and why the database failed
pub record RunsPublish {S : Type 0} (store : Ghosts S) (year : ℕ) (given : Submission Known)
    (old new : RegisterState S) (before after : Known) (result : Result ℕ Failure) : Type 0 where
  pub runs : Runs (PublishStops year given old.held new.held)
      (Publishes year given old.held new.held) before after result
  pub stored : Stays store (IsHandedIn year given) old new result
