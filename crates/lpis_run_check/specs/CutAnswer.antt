-- The answer to three tables that are to be cut: what the certificate's file gets, what is printed,
-- and the status.
use Rattle.std.specs.Prelude.{◌≡◌, ◌⊎◌, ◌++◌, ℕ, List, length, codes, Some, Result}
use Rattle.std.specs.Prelude.{Ok, Err, sum_by}
use Rattle.std.specs.Fmt.{decimal}
use Rattle.lpis_tables.specs.declared.fault.TableFault.{TableFault}
use Rattle.lpis_release.specs.Release.{Contents}
use Rattle.lpis_cert.specs.declared.cert.Cert.{Cert}
use Rattle.lpis_cert.specs.declared.part.PiecePart.{PiecePart}
use Rattle.lpis_cert.specs.Contents.{cert_text}
use Rattle.lpis_cutter.specs.declared.fault.Refusal.{Refusal}
use Rattle.lpis_cutter.specs.Refusals.{RefusalReports}
use Rattle.lpis_run.specs.CheckAnswer.{AreTablesRead, release_in}
use Rattle.lpis_run.specs.CutRefusals.{cut_refusal_text}
use Rattle.lpis_run.specs.Outputs.{Outputs, line_alone}
use Rattle.lpis_run.specs.Refusals.{refusal_text}
use Rattle.lpis_run.specs.Run.{OfRead}
use Rattle.lpis_run.specs.Status.{done, refused, unreadable}
use Rattle.lpis_run.specs.Streams.{Known}
use Rattle.lpis_run.specs.declared.folder.Tables.{Tables}

-- the line of a certificate's counts
abbrev pub counts_text : Cert → List ℕ
counts_text c =
    codes "triangles " ++ decimal (sum_by (λ (t : PiecePart). length t.triangles) c.pieces)
    ++ codes " pairs " ++ decimal (length c.pairs) ++ codes "\n"

-- a certificate that was cut, and its counts
abbrev pub cut_outputs : Cert → Outputs
cut_outputs c = record { cert = Some (cert_text c); line = counts_text c; status = done }

-- of a release: a certificate that was cut, and its counts; or the line of a refusal, and what the
-- refusal says of the release holds. Of no release: the line of the tables' first fault
abbrev pub IsCutAnswer : Result Contents TableFault → Outputs → Type 0
IsCutAnswer (Ok r) a =
    ((c : Cert) × (a ≡ cut_outputs c)) ⊎ ((refusal : Refusal) × RefusalReports r refusal
    × (a ≡ line_alone (cut_refusal_text refusal) refused))
IsCutAnswer (Err fault) a = a ≡ line_alone (refusal_text fault) unreadable

-- a run that cuts: this is an answer to the tables that three readers reported, as far as it is
-- known
abbrev pub Cuts : Tables Known → Outputs → Type 0
Cuts given a = OfRead AreTablesRead given (λ tables. IsCutAnswer (release_in tables) a)
