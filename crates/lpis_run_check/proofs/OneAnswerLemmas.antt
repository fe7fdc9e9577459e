-- The inputs of a check that name a certificate have one answer.
use Rattle.std.proofs.Common.{◌≡◌, ◌∙◌, inl, inr, ap, sym, subst, ℕ, List, Option, Some, Result, Ok, Err}
use Rattle.lpis_release.specs.Release.{Contents}
use Rattle.lpis_cert.specs.declared.cert.Cert.{Cert}
use Rattle.lpis_checker.specs.GoodCertificate.{IsGood}
use Rattle.lpis_tables.specs.declared.fault.TableFault.{TableFault}
use Rattle.lpis_cert.specs.declared.fault.CertCode.{CertCode}
use Rattle.lpis_cert.specs.Faults.{verdict}
use Rattle.lpis_cert.proofs.Shared.{one_cert}
use Rattle.lpis_checker.specs.declared.condition.Site.{Site}
use Rattle.lpis_checker.specs.FirstFault.{condition_of, IsFault, location_of}
use Rattle.lpis_checker.proofs.Shared.{one_fault}
use Rattle.lpis_run.specs.CheckAnswer.{Answer, Inputs, IsAnswer, IsCertAnswer, IsCheckAnswer, IsNamedAnswer, IsTableAnswer, IsUsedAnswer, release_in}
use Rattle.lpis_run.proofs.Shared.{IsReport}
use Rattle.lpis_run.specs.Refusals.{check_refusal_text}
use Rattle.lpis_run.specs.Status.{refused}
use Rattle.lpis_checker.specs.declared.fault.CheckFault.TheVariants as check

fault_line : Contents → Cert → Site → Answer
fault_line r c a = (check_refusal_text (check.At (condition_of a) (location_of r c a)), refused)

-- a certificate that is good has no fault
good_or_not : (r : Contents) (c : Cert) (a : Site) → IsGood r c → IsFault r c a → ⊥
good_or_not r c a good f = f.fails (good.holds a)

-- what leaves no choice
Decides : (Answer → Type 0) → Type 0
Decides IsNext = (a b : Answer) → IsNext a → IsNext b → a ≡ b

check_answer : (r : Contents) (c : Cert) (IsNext : Answer → Type 0) → Decides IsNext → Decides (IsCheckAnswer r c IsNext)
unfolding Decides fault_line
check_answer r c IsNext one a b (inl x) (inl y) = one a b x.1 y.1
check_answer r c IsNext one a b (inl x) (inr y) = absurd (good_or_not r c y.0 x.0 y.1)
check_answer r c IsNext one a b (inr x) (inl y) = absurd (good_or_not r c x.0 y.0 x.1)
check_answer r c IsNext one a b (inr x) (inr y) = x.2 ∙ ap (fault_line r c) (one_fault r c x.0 y.0 x.1 y.1) ∙ sym y.2

cert_answer : (IsNext : Cert → Answer → Type 0) (text : List ℕ) (said : Result ℕ (CertCode × ℕ)) → ((c : Cert) → Decides (IsNext c))
    → Decides (IsCertAnswer IsNext text said)
unfolding Decides
cert_answer IsNext text (Err fault) one a b x y = x ∙ sym y
cert_answer IsNext text (Ok lines) one a b x y =
    let same = one_cert text x.0 y.0 x.1 y.1 in
    one y.0 a b (subst (λ (c : Cert). IsNext c a) same x.2) y.2

table_answer : {A : Type 0} (IsNext : A → Answer → Type 0) (said : Result A TableFault) → ((x : A) → Decides (IsNext x)) → Decides (IsTableAnswer IsNext said)
unfolding Decides
table_answer IsNext (Err fault) one a b x y = x ∙ sym y
table_answer IsNext (Ok v) one a b x y = one v a b x y

release_answer : (text : List ℕ) (r : Contents) → Decides (IsNamedAnswer (IsUsedAnswer r (λ c. IsCheckAnswer r c (IsReport r))) (Some text))
unfolding Decides
release_answer text r = cert_answer (λ c. IsCheckAnswer r c (IsReport r)) text (verdict text) (λ c. check_answer r c (IsReport r) (λ a b x y. x ∙ sym y))

-- the inputs of a check that name a certificate have one answer
pub one_answer : (x : Inputs) (text : List ℕ) → x.cert ≡ Some text → (a b : Answer) → IsAnswer x a → IsAnswer x b → a ≡ b
unfolding Decides
one_answer x text named a b f g =
    let one : (r : Contents) → Decides (IsNamedAnswer (IsUsedAnswer r (λ c. IsCheckAnswer r c (IsReport r))) x.cert) =
    λ r. subst (λ (cert : Option (List ℕ)). Decides (IsNamedAnswer (IsUsedAnswer r (λ c. IsCheckAnswer r c (IsReport r))) cert)) (sym named) (release_answer text r) in
    table_answer (λ r. IsNamedAnswer (IsUsedAnswer r (λ c. IsCheckAnswer r c (IsReport r))) x.cert) (release_in x.tables) one a b f g
