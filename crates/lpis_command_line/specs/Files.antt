-- The files that a command names.
use Rattle.std.specs.Prelude.{◌≡◌, ◌++◌, codes, option_map, unwrap_or}
use Rattle.clap.specs.Words.{Text}
use Rattle.lpis_run.specs.declared.failure.Name.{Name}
use Rattle.lpis_run.specs.declared.failure.Name.TheVariants.{Parcels, Covers, Classes}
use Rattle.lpis_run.specs.declared.failure.Name.TheVariants.{Country}
use Rattle.lpis_run.specs.declared.folder.Tables.{Tables}
use Rattle.lpis_command_line.specs.declared.files.CountryFolder.{CountryFolder}
use Rattle.lpis_command_line.specs.declared.files.NamedFile.{NamedFile}

-- a path in a folder
abbrev pub in_folder : Text → Text → Text
in_folder folder path = folder ++ codes "/" ++ path

-- the whole path of a file, which lies in a folder, if there is one
abbrev pub path_of : NamedFile → Text
path_of i = unwrap_or (option_map (λ f. in_folder f.now i.path.now) i.folder) i.path.now

-- the file has this path, and a failure reports it by this name
abbrev pub IsFile : Name → Text → NamedFile → Type 0
IsFile name path i = (path_of i ≡ path) × (i.name ≡ name)

-- the tables of the release in a folder
abbrev pub AreTablesIn : Text → Tables NamedFile → Type 0
AreTablesIn folder t = IsFile Parcels (in_folder folder (codes "parcels.csv")) t.parcels
    × IsFile Covers (in_folder folder (codes "covers.csv")) t.covers
    × IsFile Classes (in_folder folder (codes "classes.csv")) t.classes

-- the country in a folder: how it is cut into regions, and the classes of all
abbrev pub IsCountryIn : Text → CountryFolder → Type 0
IsCountryIn folder c = (c.path.now ≡ folder)
    × IsFile Country (in_folder folder (codes "country.txt")) c.top.plan
    × IsFile Classes (in_folder folder (codes "classes.csv")) c.top.classes
