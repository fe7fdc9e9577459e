-- The answer to three tables, and to a certificate where one is named: text and status, of their
-- bytes.
use Rattle.std.specs.Prelude.{◌≡◌, ◌≢◌, ◌⊎◌, ℕ, List, Option, None, Some, Result, Ok, Err}
use Rattle.lpis_tables.specs.declared.fault.TableFault.{TableFault}
use Rattle.lpis_release.specs.Release.{Contents, release_of}
use Rattle.lpis_cert.specs.declared.cert.Cert.{Cert}
use Rattle.lpis_cert.specs.declared.fault.CertCode.{CertCode}
use Rattle.lpis_cert.specs.declared.fault.CertFault.TheVariants as cert
use Rattle.lpis_cert.specs.Contents.{IsCertText}
use Rattle.lpis_cert.specs.Faults.{verdict}
use Rattle.lpis_checker.specs.declared.condition.Site.{Site}
use Rattle.lpis_checker.specs.declared.fault.CheckFault.TheVariants as check
use Rattle.lpis_checker.specs.FirstFault.{condition_of, IsFault, location_of}
use Rattle.lpis_checker.specs.GoodCertificate.{IsGood}
use Rattle.lpis_checker.specs.SoundMap.{IsSoundMap}
use Rattle.lpis_cutter.specs.declared.fault.Refusal.{Refusal}
use Rattle.lpis_cutter.specs.Refusals.{RefusalReports}
use Rattle.lpis_run.specs.CutRefusals.{cut_refusal_text}
use Rattle.lpis_run.specs.Refusals.{cert_refusal_text, check_refusal_text, refusal_text}
use Rattle.lpis_run.specs.Report.{report_text}
use Rattle.lpis_run.specs.Status.{done, refused, unreadable}
use Rattle.lpis_run.specs.Streams.{IsRead, IsReadIfAny, Known}
use Rattle.lpis_run.specs.declared.folder.Folder.{Folder}
use Rattle.lpis_run.specs.declared.folder.Tables.{Tables}

-- the bytes of three tables, and of a certificate where one is named
abbrev pub Inputs : Type 0
Inputs = Folder (List ℕ)

-- the release that tables say, or their first fault
abbrev pub release_in : Tables (List ℕ) → Result Contents TableFault
release_in t = release_of t.parcels t.covers t.classes

-- a text with a status
abbrev pub Answer : Type 0
Answer = List ℕ × ℕ

-- of a release and a certificate: what is said of a good one, else its first fault's line
abbrev pub IsCheckAnswer : Contents → Cert → (Answer → Type 0) → Answer → Type 0
IsCheckAnswer r c IsNext a =
    (IsGood r c × IsNext a)
    ⊎ ((at : Site) × IsFault r c at
    × (a ≡ (check_refusal_text (check.At (condition_of at) (location_of r c at)), refused)))

-- of a text: the line of its first fault, or the answer to the certificate whose text it is
abbrev pub IsCertAnswer : (Cert → Answer → Type 0) → List ℕ → Result ℕ (CertCode × ℕ) → Answer
    → Type 0
IsCertAnswer IsNext text (Err at) a = a ≡ (cert_refusal_text (cert.At at.0 at.1), unreadable)
IsCertAnswer IsNext text (Ok lines) a = (c : Cert) × IsCertText text c × IsNext c a

-- of what tables say: the line of their first fault, or the answer to what they say
abbrev pub IsTableAnswer : {A : Type 0} → (A → Answer → Type 0) → Result A TableFault → Answer
    → Type 0
IsTableAnswer IsNext (Err fault) a = a ≡ (refusal_text fault, unreadable)
IsTableAnswer IsNext (Ok said) a = IsNext said a

-- of a text that may be left out: the line of its first fault, or the answer to the certificate
-- whose text it is; or to none
abbrev pub IsNamedAnswer : (Option Cert → Answer → Type 0) → Option (List ℕ) → Answer → Type 0
IsNamedAnswer IsNext None a = IsNext None a
IsNamedAnswer IsNext (Some text) a = IsCertAnswer (λ c. IsNext (Some c)) text (verdict text) a

-- of tables and a text, if one is named: the line of the tables' fault, else of the text's, or else
-- the next answer
abbrev pub IsInputAnswer : (Contents → Option Cert → Answer → Type 0) → Inputs → Answer → Type 0
IsInputAnswer IsNext x = IsTableAnswer (λ r. IsNamedAnswer (IsNext r) x.cert) (release_in x.tables)

-- of a release that gets no certificate: the line of a refusal, and what the refusal says of the
-- release holds
abbrev pub IsUncut : Contents → Answer → Type 0
IsUncut r a = (refusal : Refusal) × RefusalReports r refusal
    × (a ≡ (cut_refusal_text refusal, refused))

-- of a release and the certificate that is used: the one that is named; where none is, one that was
-- made of the release, or the line that says why there is none
abbrev pub IsUsedAnswer : Contents → (Cert → Answer → Type 0) → Option Cert → Answer → Type 0
IsUsedAnswer r IsNext (Some c) a = IsNext c a
IsUsedAnswer r IsNext None a = IsUncut r a ⊎ ((c : Cert) × IsNext c a)

-- the answer to them all: of a release whose certificate is good, its report and the yes
abbrev pub IsAnswer : Inputs → Answer → Type 0
IsAnswer = IsInputAnswer (λ r. IsUsedAnswer r (λ c. IsCheckAnswer r c
    (λ a. a ≡ (report_text r, done))))

-- the answer to these inputs, which is no yes
abbrev pub IsRefusal : Inputs → Answer → Type 0
IsRefusal x a = IsAnswer x a × (a.1 ≢ done)

-- a certificate may be used: the text spells it, if one is named
abbrev pub IsUsed : Option (List ℕ) → Cert → Type 0
IsUsed None c = Unit {0}
IsUsed (Some text) c = IsCertText text c

-- this release is that of the tables, a sound map, and a certificate that may be used is good
pub record IsProvedOf (x : Inputs) (release : Contents) : Type 0 where
  pub tables : release_in x.tables ≡ Ok release
  pub sound : IsSoundMap release
  pub certificate : Cert
  pub used : IsUsed x.cert certificate
  pub good : IsGood release certificate

-- the tables are those of a release for which this holds
abbrev pub IsProved : Inputs → Type 0
IsProved x = (release : Contents) × IsProvedOf x release

-- tables are what three readers reported, as far as it is known
abbrev pub AreTablesRead : Tables (List ℕ) → Tables Known → Type 0
AreTablesRead x t =
    IsRead x.parcels t.parcels × IsRead x.covers t.covers × IsRead x.classes t.classes

-- the inputs are what their readers reported, as far as it is known
abbrev pub AreRead : Inputs → Folder Known → Type 0
AreRead x f = AreTablesRead x.tables f.tables × IsReadIfAny x.cert f.cert
