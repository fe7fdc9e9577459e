-- The files of a command, opened in their order.
use Rattle.std.specs.Prelude.{◌≡◌, ◌⊎◌, ◌∷◌, [], Bool, true, codes, ℕ, List, Some}
use Rattle.lpis_command_line.specs.Files.{in_folder, path_of}
use Rattle.lpis_command_line.specs.declared.files.NamedFile.{NamedFile}
use Rattle.lpis_run.specs.Streams.{Known}
use Rattle.lpis_run.specs.declared.failure.Failure.{Failure}
use Rattle.lpis_run.specs.declared.failure.Failure.TheVariants.{Memory, Read}
use Rattle.lpis_run.specs.declared.failure.Name.{Name}
use Rattle.lpis_run.specs.declared.failure.Name.TheVariants.{Cert, Classes, Covers, Parcels}
use Rattle.lpis_run_country.specs.Regions.{Texts}
use Rattle.lpis_perform.specs.Standing.{MayOpen, Standing, known, may_fail}

-- of what stands at each path
module _ (at : List ℕ → Standing) where
  -- the bytes of a file, which stand at its path
  abbrev pub bytes_of : NamedFile → Known
  bytes_of i = known (at (path_of i))

  -- ---- the files of a command
  -- one was not opened, which the failure names; or memory ran out
  abbrev pub IsNotOpen : NamedFile → Failure → Type 0
  IsNotOpen i failure =
      (failure ≡ Memory) ⊎ ((may_fail (at (path_of i)) ≡ true) × (failure ≡ Read i.name))

  -- they were opened
  abbrev pub AreOpen : List (Name × NamedFile) → Type 0
  AreOpen [] = Unit {0}
  AreOpen (file ∷ files) = MayOpen (at (path_of file.1)) × AreOpen files

  -- they are opened in this order up to the first that is not; or memory runs out behind them
  abbrev pub StopsOpening : List (Name × NamedFile) → Failure → Type 0
  StopsOpening [] failure = failure ≡ Memory
  StopsOpening (file ∷ files) failure = IsNotOpen file.1 failure
      ⊎ (MayOpen (at (path_of file.1)) × StopsOpening files failure)

  -- ---- the files of a region
  -- the bytes of a file in a folder
  abbrev pub bytes_in : List ℕ → List ℕ → Known
  bytes_in folder file = known (at (in_folder folder file))

  -- one may be missing
  abbrev pub may_miss : List ℕ → Name → Bool
  may_miss folder Parcels = may_fail (at (in_folder folder (codes "parcels.csv")))
  may_miss folder Covers = may_fail (at (in_folder folder (codes "covers.csv")))
  may_miss folder Classes = may_fail (at (in_folder folder (codes "classes.csv")))
  may_miss folder Cert = may_fail (at (in_folder folder (codes "cert.txt")))
  may_miss folder other = true

  -- those of a region's folder
  abbrev pub texts_in : List ℕ → Texts
  texts_in folder = record {
    may_be_missing = may_miss folder;
    given = record {
      tables = record {
        parcels = bytes_in folder (codes "parcels.csv");
        covers = bytes_in folder (codes "covers.csv");
        classes = bytes_in folder (codes "classes.csv");
      };
      cert = Some (bytes_in folder (codes "cert.txt"));
    };
  }

  -- those of each region's folder in that of a country
  abbrev pub texts_of : List ℕ → List ℕ → Texts
  texts_of country name = texts_in (in_folder country name)

  -- the lineage table in that of a region
  abbrev pub lineage_of : List ℕ → List ℕ → Known
  lineage_of country name = bytes_in (in_folder country name) (codes "lineage.csv")
