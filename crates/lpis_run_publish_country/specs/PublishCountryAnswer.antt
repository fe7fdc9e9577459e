-- The answer to a country that is to be published: text and status, of the bytes of its files, the
-- year, and what the register holds before; and what it holds after.
use Rattle.std.specs.Prelude.{◌≡◌, ◌⊎◌, [], ℕ, List, Option, None, Some, Ok, length}
use Rattle.lpis_tables.specs.declared.class.Class.{Class}
use Rattle.lpis_tables.specs.Classes.{classes_table}
use Rattle.lpis_tables.specs.Faults.{rows_of}
use Rattle.lpis_release.specs.Release.{Contents}
use Rattle.lpis_cert.specs.declared.cert.Cert.{Cert}
use Rattle.lpis_cert.specs.declared.part.ExactBlock.{ExactBlock}
use Rattle.lpis_cert.specs.Contents.{IsCertText}
use Rattle.lpis_cert.specs.Faults.{verdict}
use Rattle.lpis_country.specs.Country.{country_of}
use Rattle.lpis_country.specs.CountryText.{IsCountryText}
use Rattle.lpis_country.specs.Tree.{Tree, folders}
use Rattle.lpis_lineage.specs.declared.row.Row.{Row}
use Rattle.lpis_register.specs.Holdings.{Candidate, Holdings, candidate}
use Rattle.lpis_run.specs.CheckAnswer.{Answer, IsCertAnswer}
use Rattle.lpis_run.specs.Status.{done}
use Rattle.lpis_run.specs.Streams.{IsReadIfAny, Known}
use Rattle.lpis_run.specs.declared.detail.Detail.{Detail}
use Rattle.lpis_run.specs.declared.folder.Top.{Top}
use Rattle.lpis_run_country.specs.CountryAnswer.{AfterRegions, IsTopAnswer, Setting}
use Rattle.lpis_run_country.specs.CountryAnswer.{setting_of}
use Rattle.lpis_run_country.specs.CountryLines.{country_lines}
use Rattle.lpis_run_country.specs.Regions.{AreCountryRead, AreUnited, CountryInputs, Texts}
use Rattle.lpis_run_publish.specs.Publication.{IsReleasePublished}
use Rattle.lpis_run_publish.specs.PublishAnswer.{IsHistoryAnswer}
use Rattle.lpis_run_publish_country.specs.CountryLineage.{AreTablesOf, AtTable, IsTableRefused}
use Rattle.lpis_run_publish_country.specs.CountryLineage.{country_refusal_text, rows_in}

-- ---- what is handed in
-- what is known of the files of a country: of those at its top and of the certificate whose blocks
-- are used, where one is named; of the files in the folder of each region, and the lineage table
pub record CountryFiles : Type 0 where
  pub top : Top Known
  pub exact : Option Known
  pub texts : List ℕ → Texts
  pub lineages : List ℕ → Known

-- those of a run with these readers
abbrev pub country_files : Top Known → Option Known → (List ℕ → Texts) → (List ℕ → Known)
    → CountryFiles
country_files top exact texts lineages =
    record { top = top; exact = exact; texts = texts; lineages = lineages }

-- the bytes of the files that are no region's
pub record PublishCountryInputs : Type 0 where
  pub country : CountryInputs
  pub exact : Option (List ℕ)

-- these are the bytes of those files, as far as they are known
pub record AreTopRead (x : PublishCountryInputs) (given : CountryFiles) : Type 0 where
  pub of_country : AreCountryRead x.country given.top
  pub of_exact : IsReadIfAny x.exact given.exact

-- ---- before the regions
-- the blocks of a certificate, of whose text this is the answer where it has a fault; where no
-- certificate is named there are none
abbrev pub IsExactTextAnswer : (List ExactBlock → Answer → Type 0) → Option (List ℕ) → Answer
    → Type 0
IsExactTextAnswer IsNext None = IsNext []
IsExactTextAnswer IsNext (Some text) = IsCertAnswer (λ c. IsNext c.exact) text (verdict text)

-- the blocks of the certificate of this text; none where no certificate is named
abbrev pub AreBlocksOf : Option (List ℕ) → List ExactBlock → Type 0
AreBlocksOf None blocks = blocks ≡ []
AreBlocksOf (Some text) blocks = (c : Cert) × IsCertText text c × (blocks ≡ c.exact)

-- the answer to the files before the regions: the line of the first fault, of the plan, of the
-- classes, of the certificate, of the lineage tables in the order of the plan
abbrev pub IsRefusedBefore : CountryFiles → PublishCountryInputs → Answer → Type 0
IsRefusedBefore given x = IsTopAnswer (λ plan classes. IsExactTextAnswer
    (λ blocks a. AtTable given.lineages (folders plan)
    (λ name. IsTableRefused given.lineages name a)) x.exact) x.country

-- a plan, classes, the blocks of a certificate, and tables of lineage
pub record CountrySaid : Type 0 where
  pub plan : Tree
  pub classes : List Class
  pub blocks : List ExactBlock
  pub tables : List (List Row)

-- the files before the regions have no fault, and say these
pub record AreSaid (given : CountryFiles) (x : PublishCountryInputs) (said : CountrySaid) : Type 0
  where
    pub planned : IsCountryText x.country.plan said.plan
    pub table : rows_of classes_table x.country.classes ≡ Ok said.classes
    pub of_exact : AreBlocksOf x.exact said.blocks
    pub of_lineages : AreTablesOf given.lineages (folders said.plan) said.tables

-- the setting in which the regions are read then
abbrev pub setting_said : CountryFiles → Detail → CountrySaid → Setting
setting_said given detail said = setting_of given.texts detail said.plan said.classes

-- ---- the union
-- as a release that is to be published in a year, the union of these regions with the rows of all
-- tables
abbrev pub union_of : ℕ → CountrySaid → List Contents → Candidate
union_of year said regions =
    candidate year (country_of said.classes regions).parcels said.blocks (rows_in said.tables)

-- what is asked for: a year, the files of a country, and what is to be printed of its regions
pub record CountryRequest : Type 0 where
  pub year : ℕ
  pub given : CountryFiles
  pub detail : Detail

-- what a run with these readers asks for
abbrev pub country_request : ℕ → Detail → Top Known → Option Known → (List ℕ → Texts)
    → (List ℕ → Known) → CountryRequest
country_request year detail top exact texts lineages =
    record { year = year; given = country_files top exact texts lineages; detail = detail }

-- of the regions of all folders: the line of what the register refuses, in its order; or what is
-- printed of their union, behind the line of the country and the yes. Then they are united, and it
-- was published
pub record IsUnionAnswer (asked : CountryRequest) (said : CountrySaid) (regions : List Contents)
    (before after : Holdings) (a : Answer) : Type 0 where
  pub answer : IsHistoryAnswer (country_refusal_text (folders said.plan) said.tables)
      (country_lines (length regions) (country_of said.classes regions))
      (union_of asked.year said regions) before a
  pub united : a.1 ≡ done → AreUnited asked.given.texts said.plan said.classes regions
  pub published : a.1 ≡ done → IsReleasePublished (union_of asked.year said regions) before after

-- ---- the answer
-- the answer in a year above the last one: faults of the files before the regions come first; then
-- the lines of the regions up to the first that is refused, at the end the answer to their union
abbrev pub IsPublishCountryAnswer : CountryRequest → PublishCountryInputs → Holdings → Holdings
    → Answer → Type 0
IsPublishCountryAnswer asked x before after a =
    IsRefusedBefore asked.given x a
    ⊎ ((said : CountrySaid) × AreSaid asked.given x said
    × AfterRegions (setting_said asked.given asked.detail said)
    (λ regions. IsUnionAnswer asked said regions before after) a)
