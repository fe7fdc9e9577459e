-- The answer to tables and a text, by what they say or by their first fault.
use Rattle.std.proofs.Common.{◌≡◌, ◌≢◌, ◌∙◌, inl, inr, sym, subst, ap, ap₂, ℕ, List, Option, None, Some, Result, Ok, Err, IfOk}
use Rattle.lpis_release.specs.Release.{Contents}
use Rattle.lpis_cert.specs.declared.cert.Cert.{Cert}
use Rattle.lpis_cert.specs.declared.fault.CertCode.{CertCode}
use Rattle.lpis_cert.specs.declared.fault.CertFault.{CertFault}
use Rattle.lpis_cert.specs.Contents.{IsCertText}
use Rattle.lpis_cert.specs.Faults.{verdict}
use Rattle.lpis_cert.proofs.Shared.{no_fault}
use Rattle.lpis_checker.specs.GoodCertificate.{IsGood}
use Rattle.lpis_checker.specs.SoundMap.{IsSoundMap}
use Rattle.lpis_tables.specs.declared.fault.TableFault.{TableFault}
use Rattle.lpis_run.specs.CheckAnswer.{Answer, Inputs, IsAnswer, IsCertAnswer, IsCheckAnswer, IsInputAnswer, IsNamedAnswer, IsProvedOf, IsRefusal, IsTableAnswer}
use Rattle.lpis_run.specs.CheckAnswer.{IsUncut, IsUsed, IsUsedAnswer, release_in}
use Rattle.lpis_run.specs.Inputs.{IsNamed, IsTaken, Say}
use Rattle.lpis_run.specs.private.Reading.{IsReadAs, IsReadIfAnyAs}
use Rattle.lpis_run.specs.Refusals.{line_in_region}
use Rattle.lpis_run.specs.Report.{report_text}
use Rattle.lpis_run.specs.Status.{done, unreadable}
use Rattle.lpis_run.specs.Stops.{IsInRegion, IsRefusedAs}
use Rattle.lpis_run.specs.declared.answer.Answer.{Answer as Printed}
use Rattle.lpis_run.specs.declared.stop.Stop.{Stop}
use Rattle.lpis_run.specs.declared.stop.Stop.TheVariants.{Memory, Refused}

-- the report of a release, and the yes
abbrev pub IsReport : Contents → Answer → Type 0
IsReport r a = a ≡ (report_text r, done)

-- ---- where they say something
-- the text of a certificate has no fault, so its answer is the certificate's
pub answer-of-text : (IsNext : Cert → Answer → Type 0) (text : List ℕ) (c : Cert) (a : Answer) → IsCertText text c → IsNext c a → IsCertAnswer IsNext text (verdict text) a
answer-of-text IsNext text c a e h =
    subst (λ (said : Result ℕ (CertCode × ℕ)). IsCertAnswer IsNext text said a) (sym (no_fault c text e)) (c, e, h)

-- so it is of a text that may be left out
answer-of-named : (IsNext : Option Cert → Answer → Type 0) (text : Option (List ℕ)) (named : Option Cert) (a : Answer) → IsNamed text named → IsNext named a → IsNamedAnswer IsNext text a
answer-of-named IsNext None None a e h = h
answer-of-named IsNext (Some text) (Some c) a e h = answer-of-text (λ k. IsNext (Some k)) text c a e h
answer-of-named IsNext None (Some c) a e h = absurd e
answer-of-named IsNext (Some text) None a e h = absurd e

-- so it is of the tables and the text that say a release and, where one is named, a certificate
pub answer-said : (IsNext : Contents → Option Cert → Answer → Type 0) (x : Inputs) (r : Contents) (named : Option Cert) (a : Answer) → Say x r named → IsNext r named a → IsInputAnswer IsNext x a
answer-said IsNext x r named a said next =
    subst (λ (told : Result Contents TableFault). IsTableAnswer (λ s. IsNamedAnswer (IsNext s) x.cert) told a) (sym said.0)
    (answer-of-named (IsNext r) x.cert named a said.1 next)

-- what answers the certificate that is used
pub answer-of-taken : (r : Contents) (IsNext : Cert → Answer → Type 0) (named : Option Cert) (c : Cert) (a : Answer) → IsTaken named c → IsNext c a → IsUsedAnswer r IsNext named a
answer-of-taken r IsNext None c a taken next = inr (c, next)
answer-of-taken r IsNext (Some k) c a taken next = subst (λ (j : Cert). IsNext j a) taken next

answer-of-used : (r : Contents) (IsNext : Cert → Answer → Type 0) (text : Option (List ℕ)) (c : Cert) (a : Answer) → IsUsed text c → IsNext c a → IsNamedAnswer (IsUsedAnswer r IsNext) text a
answer-of-used r IsNext None c a used next = inr (c, next)
answer-of-used r IsNext (Some text) c a used next = answer-of-text IsNext text c a used next

-- the certificate that is taken is one that may be used
used-of-taken : (text : Option (List ℕ)) (named : Option Cert) (c : Cert) → IsNamed text named → IsTaken named c → IsUsed text c
used-of-taken None None c e taken = tt
used-of-taken (Some text) (Some k) c e taken = subst (IsCertText text) (sym taken) e
used-of-taken None (Some k) c e taken = absurd e
used-of-taken (Some text) None c e taken = absurd e

-- the answer to what is proved is its report
pub answer-of-proved : (x : Inputs) (r : Contents) (a : Answer) → IsProvedOf x r → IsReport r a → IsAnswer x a
answer-of-proved x r a p report =
    subst (λ (told : Result Contents TableFault). IsTableAnswer (λ s. IsNamedAnswer (IsUsedAnswer s (λ c. IsCheckAnswer s c (IsReport s))) x.cert) told a) (sym p.tables)
    (answer-of-used r (λ c. IsCheckAnswer r c (IsReport r)) x.cert p.certificate a p.used (inl (p.good, report)))

-- a release that is theirs, for which the certificate that is taken is good, is proved
pub proved-said : (x : Inputs) (s : Contents) (named : Option Cert) (r : Contents) → Say x s named → (r ≡ s) × IsSoundMap r × ((c : Cert) × IsTaken named c × IsGood r c) → IsProvedOf x r
proved-said x s named r said is = record {
  tables = said.0 ∙ ap (λ (t : Contents). Ok t) (sym is.0);
  sound = is.1;
  certificate = is.2.0;
  used = used-of-taken x.cert named is.2.0 said.1 is.2.1;
  good = is.2.2;
}

-- ---- where they have a fault
-- what answers those that say something may be weaker, where they have a fault or not: of a table
pub table-more : {A : Type 0} (P Q : A → Answer → Type 0) (said : Result A TableFault) (a : Answer) → ((x : A) → P x a → Q x a) → IsTableAnswer P said a → IsTableAnswer Q said a
table-more P Q (Ok x) a more is = more x is
table-more P Q (Err fault) a more is = is

-- so it is of a certificate's text
pub cert-more : (P Q : Cert → Answer → Type 0) (text : List ℕ) (said : Result ℕ (CertCode × ℕ)) (a : Answer) → ((c : Cert) → P c a → Q c a) → IsCertAnswer P text said a → IsCertAnswer Q text said a
cert-more P Q text (Ok lines) a more is = (is.0, is.1, more is.0 is.2)
cert-more P Q text (Err fault) a more is = is

-- and of one that may be left out
named-more : (P Q : Option Cert → Answer → Type 0) (text : Option (List ℕ)) (a : Answer) → ((named : Option Cert) → P named a → Q named a) → IsNamedAnswer P text a → IsNamedAnswer Q text a
named-more P Q None a more is = more None is
named-more P Q (Some text) a more is = cert-more (λ c. P (Some c)) (λ c. Q (Some c)) text (verdict text) a (λ c. more (Some c)) is

-- and of the certificate that is used
pub used-more : (r : Contents) (P Q : Cert → Answer → Type 0) (named : Option Cert) (a : Answer) → ((c : Cert) → P c a → Q c a) → IsUsedAnswer r P named a → IsUsedAnswer r Q named a
used-more r P Q (Some c) a more is = more c is
used-more r P Q None a more (inl uncut) = inl uncut
used-more r P Q None a more (inr (c, is)) = inr (c, more c is)

-- the line of the first fault answers the inputs, whatever would answer them without one
pub input-more : (P Q : Contents → Option Cert → Answer → Type 0) (x : Inputs) (a : Answer) → ((r : Contents) (named : Option Cert) → P r named a → Q r named a) → IsInputAnswer P x a
    → IsInputAnswer Q x a
input-more P Q x a more is =
    table-more (λ r. IsNamedAnswer (P r) x.cert) (λ r. IsNamedAnswer (Q r) x.cert) (release_in x.tables) a (λ r. named-more (P r) (Q r) x.cert a (more r)) is

-- the line of a table's first fault has the status of what cannot be read
pub table-status : {A : Type 0} (P : A → Answer → Type 0) (said : Result A TableFault) (a : Answer) → ((x : A) → P x a → a.1 ≡ unreadable) → IsTableAnswer P said a → a.1 ≡ unreadable
table-status P (Ok x) a next is = next x is
table-status P (Err fault) a next is = ap (λ (b : Answer). b.1) is

-- so has that of a certificate's text
cert-status : (P : Cert → Answer → Type 0) (text : List ℕ) (said : Result ℕ (CertCode × ℕ)) (a : Answer) → ((c : Cert) → P c a → a.1 ≡ unreadable) → IsCertAnswer P text said a → a.1 ≡ unreadable
cert-status P text (Ok lines) a next is = next is.0 is.2
cert-status P text (Err fault) a next is = ap (λ (b : Answer). b.1) is

named-status : (P : Option Cert → Answer → Type 0) (text : Option (List ℕ)) (a : Answer) → ((named : Option Cert) → P named a → a.1 ≡ unreadable) → IsNamedAnswer P text a → a.1 ≡ unreadable
named-status P None a next is = next None is
named-status P (Some text) a next is = cert-status (λ c. P (Some c)) text (verdict text) a (λ c. next (Some c)) is

-- the status of such a line, where what comes next has the same
pub input-status : (P : Contents → Option Cert → Answer → Type 0) (x : Inputs) (a : Answer) → ((r : Contents) (named : Option Cert) → P r named a → a.1 ≡ unreadable) → IsInputAnswer P x a
    → a.1 ≡ unreadable
input-status P x a next is = table-status (λ r. IsNamedAnswer (P r) x.cert) (release_in x.tables) a (λ r. named-status (P r) x.cert a (next r)) is

-- ---- a step that stops
-- its answer is one of those that it may be
pub refused-as : {A : Type 0} (Is : Answer → Type 0) (stop : Stop) (r : Result Printed A) → IsRefusedAs Is stop → IfOk r (λ a. stop ≡ Refused a) → IfOk r (λ a. Is (a.text.items, a.status))
refused-as Is stop (Ok a) may is = subst (IsRefusedAs Is) is may
refused-as Is stop (Err e) may is = tt

-- what holds of each answer holds of the one
pub refused-more : (P Q : Answer → Type 0) (stop : Stop) → ((a : Answer) → P a → Q a) → IsRefusedAs P stop → IsRefusedAs Q stop
refused-more P Q Memory more is = tt
refused-more P Q (Refused a) more is = more (a.text.items, a.status) is

-- an answer with a region at the end of its line
pub stopped-in-region : (Is : Answer → Type 0) (region : List ℕ) (stop in_it : Stop) → IsRefusedAs Is stop → IsInRegion stop region in_it
    → IsRefusedAs (λ a. (b : Answer) × Is b × (a ≡ (line_in_region b.0 region, b.1))) in_it
stopped-in-region Is region Memory Memory is of = tt
stopped-in-region Is region (Refused a) Memory is of = tt
stopped-in-region Is region Memory (Refused b) is of = absurd of
stopped-in-region Is region (Refused a) (Refused b) is of = ((a.text.items, a.status), is, ap₂ (λ (t : List ℕ) (s : ℕ). (t, s)) of.0 of.1)

-- what stops where a text is read stops where it may be left out
pub stop-of-named : (text : Option (List ℕ)) (read : Result Cert CertFault) (stop : Stop) → IsReadIfAnyAs text (Some read)
    → ((t : List ℕ) → IsReadAs t read → IsRefusedAs (IsCertAnswer (λ _ _. ⊥) t (verdict t)) stop) → IsRefusedAs (IsNamedAnswer (λ _ _. ⊥) text) stop
stop-of-named None read stop is h = absurd is
stop-of-named (Some t) read stop is h = h t is

-- where the tables are read, the fault of the certificate's text is that of the inputs
pub stop-of-text : (x : Inputs) (r : Contents) (stop : Stop) → release_in x.tables ≡ Ok r → IsRefusedAs (IsNamedAnswer (λ _ _. ⊥) x.cert) stop
    → IsRefusedAs (IsInputAnswer (λ _ _ _. ⊥) x) stop
stop-of-text x r stop tables is =
    refused-more _ _ stop (λ a. λ said. subst (λ (told : Result Contents TableFault). IsTableAnswer (λ s. IsNamedAnswer (λ _ _. ⊥) x.cert) told a) (sym tables) said) is

-- what cannot be read is no yes
unreadable-is-no-yes : (a : Answer) → a.1 ≡ unreadable → a.1 ≢ done
unreadable-is-no-yes a is same = let no = sym is ∙ same in cc

-- the line of the first fault of tables and text refuses the check
pub refusal-of-texts : (x : Inputs) (stop : Stop) → IsRefusedAs (IsInputAnswer (λ _ _ _. ⊥) x) stop → IsRefusedAs (IsRefusal x) stop
refusal-of-texts x stop is =
    refused-more (IsInputAnswer (λ _ _ _. ⊥) x) (IsRefusal x) stop
    (λ a said.
    let answers : IsAnswer x a = input-more (λ _ _ _. ⊥) (λ r. IsUsedAnswer r (λ c. IsCheckAnswer r c (IsReport r))) x a (λ r named no. absurd no) said in
    (answers, unreadable-is-no-yes a (input-status (λ _ _ _. ⊥) x a (λ r named no. absurd no) said)))
    is

-- the line of a certificate's first fault is no yes
refused-is-no-yes : (r : Contents) (c : Cert) (a : Answer) → IsCheckAnswer r c (λ _. ⊥) a → a.1 ≢ done
refused-is-no-yes r c a (inl p) same = p.1
refused-is-no-yes r c a (inr p) same = let no = sym (ap (λ (b : Answer). b.1) p.2) ∙ same in cc

-- nor is the line of a release that gets none
uncut-is-no-yes : (r : Contents) (a : Answer) → IsUncut r a → a.1 ≢ done
uncut-is-no-yes r a p same = let no = sym (ap (λ (b : Answer). b.1) p.2) ∙ same in cc

-- whichever certificate is used
pub used-is-no-yes : (r : Contents) (named : Option Cert) (a : Answer) → IsUsedAnswer r (λ c. IsCheckAnswer r c (λ _. ⊥)) named a → a.1 ≢ done
used-is-no-yes r (Some c) a is = refused-is-no-yes r c a is
used-is-no-yes r None a (inl uncut) = uncut-is-no-yes r a uncut
used-is-no-yes r None a (inr (c, is)) = refused-is-no-yes r c a is

-- the line of a certificate's first fault answers the check
fault-of-check : (r : Contents) (c : Cert) (a : Answer) → IsCheckAnswer r c (λ _. ⊥) a → IsCheckAnswer r c (IsReport r) a
fault-of-check r c a (inl p) = absurd p.1
fault-of-check r c a (inr p) = inr p

-- so it refuses it
pub refusal-of-cert : (x : Inputs) (r : Contents) (named : Option Cert) (stop : Stop) → Say x r named → IsRefusedAs (IsUsedAnswer r (λ c. IsCheckAnswer r c (λ _. ⊥)) named) stop
    → IsRefusedAs (IsRefusal x) stop
refusal-of-cert x r named stop said is =
    refused-more (IsUsedAnswer r (λ c. IsCheckAnswer r c (λ _. ⊥)) named) (IsRefusal x) stop
    (λ a fault.
    let answers : IsAnswer x a =
    answer-said (λ s. IsUsedAnswer s (λ k. IsCheckAnswer s k (IsReport s))) x r named a said
    (used-more r (λ c. IsCheckAnswer r c (λ _. ⊥)) (λ c. IsCheckAnswer r c (IsReport r)) named a (λ c. fault-of-check r c a) fault) in
    (answers, used-is-no-yes r named a fault))
    is

-- the fault of the certificate that is used
pub stop-of-taken : (r : Contents) (Is : Cert → Answer → Type 0) (named : Option Cert) (c : Cert) (stop : Stop) → IsTaken named c → IsRefusedAs (Is c) stop
    → IsRefusedAs (IsUsedAnswer r Is named) stop
stop-of-taken r Is named c stop taken is = refused-more (Is c) (IsUsedAnswer r Is named) stop (λ a. answer-of-taken r Is named c a taken) is
