-- What the register answers to the union of regions that all passed.
use Rattle.std.proofs.Common.{◌≡◌, ◌≢◌, inl, inr, refl, sym, subst, arith, ℕ, List, IfOk, Result, Ok, Err, length}
use Rattle.lpis_release.specs.declared.parcel.Parcel.{Parcel}
use Rattle.lpis_release.specs.Release.{Contents}
use Rattle.lpis_cert.specs.declared.part.ExactBlock.{ExactBlock}
use Rattle.lpis_country.specs.Country.{country_of}
use Rattle.lpis_country.specs.Tree.{folders}
use Rattle.lpis_lineage.specs.declared.row.Row.{Row}
use Rattle.lpis_register.specs.Faults.{IsRefused, IsSetAside}
use Rattle.lpis_register.specs.Holdings.{Holdings, candidate}
use Rattle.lpis_register.specs.declared.fault.PublishFault.{PublishFault}
use Rattle.lpis_register.specs.declared.fault.PublishFault.TheVariants as publish
use Rattle.lpis_run.specs.CheckAnswer.{Answer}
use Rattle.lpis_run.specs.declared.answer.Answer.{Answer as Printed}
use Rattle.lpis_run.specs.Status.{refused}
use Rattle.lpis_run.specs.declared.failure.Failure.{Failure}
use Rattle.lpis_run_country.specs.CountryLines.{country_lines}
use Rattle.lpis_run_country.specs.RegionsOutcome.{JoinsAll}
use Rattle.lpis_run_country.proofs.Shared.{passed_regions}
use Rattle.lpis_run_publish.specs.Publication.{IsPublicationAnswer, IsReleasePublished}
use Rattle.lpis_run_publish_country.specs.CountryLineage.{country_refusal_text, rows_in}
use Rattle.lpis_run_publish_country.specs.PublishCountryAnswer.{CountryRequest, CountrySaid, IsUnionAnswer, union_of}
use Rattle.lpis_run_publish_country.specs.private.Deciding.{setting_asked}

no-yes : (n : ℕ) → n ≡ 1 → n ≡ 0 → ⊥
no-yes n one zero = omega arith

module _ (asked : CountryRequest) (said : CountrySaid) (regions : List Contents) (before after : Holdings) where
  -- the union was published
  pub union_published : (lines head : List ℕ) (a : Answer) → JoinsAll (setting_asked asked said) regions lines → head ≡ country_lines (length regions) (country_of said.classes regions)
      → IsPublicationAnswer head (union_of asked.year said regions) before a → IsReleasePublished (union_of asked.year said regions) before after → IsUnionAnswer asked said regions before after a
  union_published lines head a all is told published = record {
    answer = inr (subst (λ (x : List ℕ). IsPublicationAnswer x (union_of asked.year said regions) before a) is told);
    united = λ _. record {
      of_folders = passed_regions (setting_asked asked said) (folders said.plan) regions lines all.have_passed;
      same = all.joined.classes_are;
      union = all.union;
      sound = all.sound;
    };
    published = λ _. published;
  }

  -- the register refuses it
  pub union_refused : (fault : PublishFault) (names : List (List ℕ)) (text : List ℕ) (status : ℕ) → names ≡ folders said.plan → IsRefused (union_of asked.year said regions) before fault
      → (IsSetAside fault → ⊥) → text ≡ country_refusal_text names said.tables fault → status ≡ refused → IsUnionAnswer asked said regions before after (text, status)
  union_refused fault names text status are why other is refused_is = record {
    answer = inl (fault, why, other, cc (is, refused_is, are));
    united = λ e. absurd (no-yes status refused_is e);
    published = λ e. absurd (no-yes status refused_is e);
  }

  -- the answer of the register is that of the union
  pub union_answered : (lines head : List ℕ) (r : Result Printed Failure) → JoinsAll (setting_asked asked said) regions lines
      → head ≡ country_lines (length regions) (country_of said.classes regions)
      → IfOk r (λ a. IsPublicationAnswer head (union_of asked.year said regions) before (a.text.items, a.status))
      → IfOk r (λ a. IsReleasePublished (union_of asked.year said regions) before after) → IfOk r (λ a. IsUnionAnswer asked said regions before after (a.text.items, a.status))
  union_answered lines head (Ok a) all is told published = union_published lines head (a.text.items, a.status) all is told published
  union_answered lines head (Err failure) all is told published = tt

-- what is to be published as was asked is the union
pub union_is : (asked : CountryRequest) (said : CountrySaid) (regions : List Contents) (year : ℕ) (ps : List Parcel) (bs : List ExactBlock) (ls : List Row) → asked.year ≡ year
    → ps ≡ (country_of said.classes regions).parcels → said.blocks ≡ bs → ls ≡ rows_in said.tables → candidate year ps bs ls ≡ union_of asked.year said regions
union_is asked said regions year ps bs ls of_year are of_blocks of_rows = cc (of_year, are, of_blocks, of_rows)

-- what the register sets aside is no refusal
pub not_set_aside : (fault : PublishFault) → (fault ≡ publish.Memory → ⊥) → (fault ≢ publish.Store) × (fault ≢ publish.StoreMemory) → IsSetAside fault → ⊥
not_set_aside publish.Memory memory store = λ aside. memory refl
not_set_aside (publish.Year last) memory store = λ aside. aside
not_set_aside (publish.Lineage fault) memory store = λ aside. aside
not_set_aside (publish.NotKept id) memory store = λ aside. aside
not_set_aside (publish.Exact fault) memory store = λ aside. aside
not_set_aside publish.Store memory store = λ aside. store.0 refl
not_set_aside publish.StoreMemory memory store = λ aside. store.1 refl
not_set_aside publish.Unknown memory store = λ aside. aside
not_set_aside publish.Unlawful memory store = λ aside. aside
