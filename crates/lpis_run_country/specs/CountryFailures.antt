-- What stands for a run over a country that gave no answer.
use Rattle.std.specs.Prelude.{◌≡◌, ◌⊎◌, ◌∷◌, [], true, ℕ, List, Ok, String}
use Rattle.std.specs.String.{string_bytes}
use Rattle.std.specs.declared.alloc.Global.{Global}
use Rattle.lpis_tables.specs.declared.class.Class.{Class}
use Rattle.lpis_tables.specs.Classes.{classes_table}
use Rattle.lpis_tables.specs.Faults.{rows_of}
use Rattle.lpis_release.specs.Release.{Contents}
use Rattle.lpis_run.specs.declared.detail.Detail.{Detail}
use Rattle.lpis_run.specs.declared.failure.Failure.{Failure}
use Rattle.lpis_run.specs.declared.failure.Failure.TheVariants.{Memory, Read, ReadOf}
use Rattle.lpis_run.specs.declared.failure.Name.{Name}
use Rattle.lpis_run.specs.declared.failure.Name.TheVariants.{Cert, Classes, Covers}
use Rattle.lpis_run.specs.declared.failure.Name.TheVariants.{Parcels}
use Rattle.lpis_run.specs.Failures.{AreUnread}
use Rattle.lpis_run.specs.Folders.{folder_named}
use Rattle.lpis_run.specs.Streams.{Known}
use Rattle.lpis_run.specs.declared.folder.Folder.{Folder}
use Rattle.lpis_country.specs.CountryText.{IsCountryText}
use Rattle.lpis_country.specs.Tree.{Tree}
use Rattle.lpis_run_country.specs.CountryAnswer.{IsReachedBy, Setting, setting_of}
use Rattle.lpis_run_country.specs.Regions.{AreOpened, CountryInputs, Texts}

-- a file of this name, which may be missing, was not opened
abbrev pub IsMissing : Texts → Failure → Name → Type 0
IsMissing t failure name = (t.may_be_missing name ≡ true) × (failure ≡ Read name)

-- a file of a folder was not opened, or memory ran out
abbrev pub IsUnopened : Texts → Failure → Type 0
IsUnopened t failure = (failure ≡ Memory) ⊎ IsMissing t failure Parcels
    ⊎ IsMissing t failure Covers ⊎ IsMissing t failure Classes ⊎ IsMissing t failure Cert

-- so it is, or one that was opened was not read, while those before it were
abbrev pub IsUnreadFolder : Texts → Failure → Type 0
IsUnreadFolder t failure = IsUnopened t failure
    ⊎ ((f : Folder Known) × AreOpened t f × AreUnread (folder_named f) failure)

-- this file was not read, in the folder of the region of this name
abbrev pub IsReadOf : Name → List ℕ → Failure → Type 0
IsReadOf file name f =
    (region : String Global) × (string_bytes region ≡ name) × (f ≡ ReadOf file region)

-- before the next of these folders, if there is one: it was not read, or memory ran out
abbrev pub IsStoppedBefore : (List ℕ → Texts) → List (List ℕ) → Failure → Type 0
IsStoppedBefore texts [] f = (f ≡ Memory)
IsStoppedBefore texts (name ∷ left) f = (f ≡ Memory)
    ⊎ ((file : Name) × IsUnreadFolder (texts name) (Read file) × IsReadOf file name f)

-- behind these lines, of the regions that passed, the next folder was not read, or memory ran out
abbrev pub StopsRegions : Setting → List ℕ → Failure → Type 0
StopsRegions s lines f = (regions : List Contents) × (left : List (List ℕ))
    × IsReachedBy s regions lines left × IsStoppedBefore s.texts left f

-- the files at the top say a plan and classes for which this holds
abbrev pub OfPlan : CountryInputs → (Tree → List Class → Type 0) → Type 0
OfPlan x Holds = (plan : Tree) × (classes : List Class) × IsCountryText x.plan plan
    × (rows_of classes_table x.classes ≡ Ok classes) × Holds plan classes

-- so it is of the regions of a country
abbrev pub StopsCountry : (List ℕ → Texts) → Detail → CountryInputs → List ℕ → Failure → Type 0
StopsCountry texts detail x lines f =
    OfPlan x (λ plan classes. StopsRegions (setting_of texts detail plan classes) lines f)
