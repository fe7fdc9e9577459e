-- The regions of a country, and what is known of the files of their folders.
use Rattle.std.specs.Prelude.{◌≡◌, ◌⊎◌, Bool, true, ℕ, List, [], ◌∷◌, All, None, Ok}
use Rattle.lpis_tables.specs.declared.class.Class.{Class}
use Rattle.lpis_tables.specs.Classes.{classes_table}
use Rattle.lpis_tables.specs.Faults.{rows_of}
use Rattle.lpis_release.specs.Release.{Contents}
use Rattle.lpis_checker.specs.SoundMap.{IsSoundMap}
use Rattle.lpis_run.specs.CheckAnswer.{AreRead, Inputs, IsProvedOf}
use Rattle.lpis_run.specs.Streams.{IsRead, Known}
use Rattle.lpis_run.specs.declared.failure.Name.{Name}
use Rattle.lpis_run.specs.declared.failure.Name.TheVariants.{Cert}
use Rattle.lpis_run.specs.declared.folder.Folder.{Folder}
use Rattle.lpis_run.specs.declared.folder.Top.{Top}
use Rattle.lpis_country.specs.Country.{country_of}
use Rattle.lpis_country.specs.Union.{IsUnion}
use Rattle.lpis_country.specs.CountryText.{IsCountryText}
use Rattle.lpis_country.specs.Tree.{Tree, folders}

-- ---- a folder
-- the files of a folder: whether one may be missing, and their bytes as far as they are known
pub record Texts : Type 0 where
  pub may_be_missing : Name → Bool
  pub given : Folder Known

-- the files that are opened: all of them; or all but the certificate, where that may be missing
abbrev pub AreOpened : Texts → Folder Known → Type 0
AreOpened t f = (f ≡ t.given)
    ⊎ ((t.may_be_missing Cert ≡ true) × (f ≡ record t.given { cert = None }))

-- these are what the readers of such files reported, as far as it is known
abbrev pub IsFolderRead : Inputs → Texts → Type 0
IsFolderRead x t = (f : Folder Known) × AreOpened t f × AreRead x f

-- they say this release, which is a sound map, and a certificate that is good for it; where theirs
-- is missing, there is one
abbrev pub IsRegionOf : Texts → Contents → Type 0
IsRegionOf t r = (x : Inputs) × IsFolderRead x t × IsProvedOf x r

-- ---- a country
-- the bytes of the two files at the top of a country's folder
abbrev pub CountryInputs : Type 0
CountryInputs = Top (List ℕ)

-- these are what two readers reported, as far as it is known
pub record AreCountryRead (x : CountryInputs) (given : Top Known) : Type 0 where
  pub of_plan : IsRead x.plan given.plan
  pub of_classes : IsRead x.classes given.classes

-- a region of each folder, in this order
abbrev pub AreRegionsOf : (List ℕ → Texts) → List (List ℕ) → List Contents → Type 0
AreRegionsOf texts [] [] = Unit {0}
AreRegionsOf texts (name ∷ names) (r ∷ rs) = IsRegionOf (texts name) r
    × AreRegionsOf texts names rs
AreRegionsOf texts _ _ = ⊥

-- a region of each folder of a plan has these classes. Their country is the union of the regions,
-- in which no parcel of a region is missing, and it is a sound map
pub record AreUnited (texts : List ℕ → Texts) (plan : Tree) (classes : List Class)
    (regions : List Contents) : Type 0 where
  pub of_folders : AreRegionsOf texts (folders plan) regions
  pub same : All (λ (r : Contents). r.classes ≡ classes) regions
  pub union : IsUnion regions (country_of classes regions)
  pub sound : IsSoundMap (country_of classes regions)

-- `country.txt` is the text of a plan, and `classes.csv` a table of classes, and there are such
-- regions
pub record IsCountry (texts : List ℕ → Texts) (x : CountryInputs) : Type 0 where
  pub plan : Tree
  pub text : IsCountryText x.plan plan
  pub classes : List Class
  pub table : rows_of classes_table x.classes ≡ Ok classes
  pub regions : List Contents
  pub united : AreUnited texts plan classes regions
