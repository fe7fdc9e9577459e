-- The answer to a submission, by what it says or by its first fault.
use Rattle.std.proofs.Common.{◌≡◌, ◌≢◌, ◌∙◌, ap, inl, inr, sym, Option}
use Rattle.lpis_cert.specs.declared.cert.Cert.{Cert}
use Rattle.lpis_run_publish.proofs.Common.{Answer}
use Rattle.lpis_release.specs.Release.{Contents}
use Rattle.lpis_tables.specs.Faults.{rows_of}
use Rattle.lpis_lineage.specs.LineageTable.{lineage_table}
use Rattle.lpis_run.specs.CheckAnswer.{IsCheckAnswer, IsInputAnswer, IsTableAnswer, IsUsedAnswer}
use Rattle.lpis_run.specs.Inputs.{Say}
use Rattle.lpis_run.specs.Status.{done, unreadable}
use Rattle.lpis_run.specs.Stops.{IsRefusedAs}
use Rattle.lpis_run.specs.declared.stop.Stop.{Stop}
use Rattle.lpis_run.proofs.Shared.{answer-said, input-more, input-status, refused-more, table-more, table-status, used-is-no-yes, used-more}
use Rattle.lpis_run_publish.specs.Submission.{IsSubmissionAnswer, IsSubmitted, SubmissionInputs, Submitted, submitted}
use Rattle.lpis_run_publish.specs.private.Submitting.{IsFaultAnswer}

-- of what tables and a text say, the answer to the lineage table
abbrev pub of_rows : (Submitted → Answer → Type 0) → SubmissionInputs → Contents → Option Cert → Answer → Type 0
of_rows IsNext x r named = IsTableAnswer (λ rows. IsNext (submitted r named rows)) (rows_of lineage_table x.lineage)

-- ---- where it says something
pub submission-said : (IsNext : Submitted → Answer → Type 0) (x : SubmissionInputs) (said : Submitted) (a : Answer) → IsSubmitted x said → IsNext said a → IsSubmissionAnswer IsNext x a
submission-said IsNext x said a is next =
    let rows : of_rows IsNext x said.release said.cert a = rw is.of_lineage next in
    answer-said (of_rows IsNext x) x.folder said.release said.cert a is.of_checked rows

-- ---- where it has a fault
-- the line of the first fault answers a submission, whatever would answer it without one
pub submission-more : (IsNext : Submitted → Answer → Type 0) (x : SubmissionInputs) (a : Answer) → IsFaultAnswer x a → IsSubmissionAnswer IsNext x a
submission-more IsNext x a is =
    input-more (of_rows (λ _ _. ⊥) x) (of_rows IsNext x) x.folder a (λ r c. table-more _ _ (rows_of lineage_table x.lineage) a (λ rows no. absurd no)) is

-- its status is that of an input that cannot be read
pub submission-status : (x : SubmissionInputs) (a : Answer) → IsFaultAnswer x a → a.1 ≡ unreadable
submission-status x a is = input-status (of_rows (λ _ _. ⊥) x) x.folder a (λ r c. table-status _ (rows_of lineage_table x.lineage) a (λ rows no. absurd no)) is

-- the fault of the tables or of the certificate's text is that of the submission
pub stop-of-inputs : (x : SubmissionInputs) (stop : Stop) → IsRefusedAs (IsInputAnswer (λ _ _ _. ⊥) x.folder) stop → IsRefusedAs (IsFaultAnswer x) stop
stop-of-inputs x stop is =
    refused-more _ (IsFaultAnswer x) stop (λ a. input-more (λ _ _ _. ⊥) (of_rows (λ _ _. ⊥) x) x.folder a (λ r c no. absurd no)) is

-- where tables and certificate are read, the fault of the lineage table is that of the submission
pub stop-of-rows : (x : SubmissionInputs) (r : Contents) (c : Option Cert) (stop : Stop) → Say x.folder r c → IsRefusedAs (IsTableAnswer (λ _ _. ⊥) (rows_of lineage_table x.lineage)) stop
    → IsRefusedAs (IsFaultAnswer x) stop
stop-of-rows x r c stop said is = refused-more _ (IsFaultAnswer x) stop (λ a fault. answer-said (of_rows (λ _ _. ⊥) x) x.folder r c a said fault) is

-- ---- where its certificate has one
-- the line of the first fault answers a release and a certificate, whatever would answer good ones
pub check-more : (r : Contents) (c : Cert) (IsNext : Answer → Type 0) (a : Answer) → IsCheckAnswer r c (λ _. ⊥) a → IsCheckAnswer r c IsNext a
check-more r c IsNext a (inl p) = absurd p.1
check-more r c IsNext a (inr fault) = inr fault

-- its status is no yes
pub refused-is-not-done : (r : Contents) (c : Cert) (a : Answer) → IsCheckAnswer r c (λ _. ⊥) a → a.1 ≢ done
refused-is-not-done r c a (inl p) same = p.1
refused-is-not-done r c a (inr fault) same = let no = sym (ap (λ (b : Answer). b.1) fault.2) ∙ same in cc

-- nor is the line of a release that gets no certificate
pub unused-is-not-done : (r : Contents) (named : Option Cert) (a : Answer) → IsUsedAnswer r (λ _ _. ⊥) named a → a.1 ≢ done
unused-is-not-done r named a is =
    used-is-no-yes r named a (used-more r (λ _ _. ⊥) (λ c. IsCheckAnswer r c (λ _. ⊥)) named a (λ c no. absurd no) is)
