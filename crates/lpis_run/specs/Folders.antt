-- The files that a command reads.
use Rattle.std.specs.Prelude.{◌∷◌, ◌++◌, [], List, Option, None, Some}
use Rattle.std.specs.Option.{option_map}
use Rattle.lpis_run.specs.declared.failure.Name.{Name}
use Rattle.lpis_run.specs.declared.failure.Name.TheVariants.{Cert, Classes, Country, Covers}
use Rattle.lpis_run.specs.declared.failure.Name.TheVariants.{Lineage, Parcels}
use Rattle.lpis_run.specs.declared.folder.Folder.{Folder}
use Rattle.lpis_run.specs.declared.folder.Submission.{Submission}
use Rattle.lpis_run.specs.declared.folder.Tables.{Tables}
use Rattle.lpis_run.specs.declared.folder.Top.{Top}

-- ---- what is kept of them
-- the same files, of each of which something else is kept
module _ {S T : Type 0} (f : S → T) where
  abbrev pub tables_by : Tables S → Tables T
  tables_by t = record { parcels = f t.parcels; covers = f t.covers; classes = f t.classes }

  abbrev pub folder_by : Folder S → Folder T
  folder_by x = record { tables = tables_by x.tables; cert = option_map f x.cert }

  abbrev pub submission_by : Submission S → Submission T
  submission_by x = record { folder = folder_by x.folder; lineage = f x.lineage }

  abbrev pub top_by : Top S → Top T
  top_by x = record { plan = f x.plan; classes = f x.classes }

-- ---- the order in which they are read
-- each with its name
module _ {T : Type 0} where
  abbrev pub tables_named : Tables T → List (Name × T)
  tables_named t = (Parcels, t.parcels) ∷ (Covers, t.covers) ∷ (Classes, t.classes) ∷ []

  -- a certificate, where one is named
  abbrev pub cert_named : Option T → List (Name × T)
  cert_named None = []
  cert_named (Some cert) = (Cert, cert) ∷ []

  abbrev pub folder_named : Folder T → List (Name × T)
  folder_named x = tables_named x.tables ++ cert_named x.cert

  abbrev pub submission_named : Submission T → List (Name × T)
  submission_named x = folder_named x.folder ++ (Lineage, x.lineage) ∷ []

  abbrev pub top_named : Top T → List (Name × T)
  top_named x = (Country, x.plan) ∷ (Classes, x.classes) ∷ []
