-- What a submission says, or the answer where it says nothing.
use Rattle.std.specs.Prelude.{ℕ, List, Vec}
use Rattle.std.specs.declared.alloc.Global.{Global}
use Rattle.lpis_cert.specs.declared.cert.Cert.{Cert}
use Rattle.lpis_lineage.specs.declared.row.Row.{Row}
use Rattle.lpis_register.specs.Holdings.{Holdings}
use Rattle.lpis_release.specs.Release.{Contents}
use Rattle.lpis_run.specs.CheckAnswer.{Answer}
use Rattle.lpis_run.specs.Folders.{submission_by}
use Rattle.lpis_run.specs.Report.{report_text}
use Rattle.lpis_run.specs.declared.folder.Submission.{Submission}
use Rattle.lpis_run_publish.specs.LineageLines.{publish_refusal_text}
use Rattle.lpis_run_publish.specs.PublishAnswer.{IsHistoryAnswer, candidate_of}
use Rattle.lpis_run_publish.specs.Submission.{IsSubmissionAnswer, SubmissionInputs, Submitted}
use Rattle.lpis_run_publish.specs.Submission.{submitted}
use Rattle.lpis_run_publish.specs.declared.submission.ReadSubmission.{ReadSubmission}

abbrev pub submission_of : Submission (Vec ℕ Global) → SubmissionInputs
submission_of = submission_by (λ v. v.items)

abbrev pub submitted_of : ReadSubmission → Submitted
submitted_of s = submitted s.release s.cert s.rows.items

-- the answer to a submission that says nothing
abbrev pub IsFaultAnswer : SubmissionInputs → Answer → Type 0
IsFaultAnswer = IsSubmissionAnswer (λ said a. ⊥)

-- the answer to a release with these rows, which is to be published in a year, where this
-- certificate is good
abbrev pub IsGoodAnswer : ℕ → Contents → List Row → Cert → Holdings → Answer → Type 0
IsGoodAnswer year r rows c before = IsHistoryAnswer publish_refusal_text (report_text r)
    (candidate_of year r rows c) before
