-- The words of a command, and its files, by its arguments.
use Rattle.std.specs.Prelude.{◌≡◌, ◌≤◌, ℕ, List, Option, Some, None, codes}
use Rattle.std.specs.Str.Parse.{IsNumeral, digits_value, without_leading_plus}
use Rattle.clap.specs.Words.{Row, Text, first_of}
use Rattle.lpis_run.specs.declared.detail.Detail.{Detail}
use Rattle.lpis_run.specs.declared.detail.Detail.TheVariants.{Parcels, Regions}
use Rattle.lpis_run.specs.declared.failure.Name.TheVariants.{Cert, Lineage, Points}
use Rattle.lpis_run.specs.declared.folder.Folder.{Folder}
use Rattle.lpis_run.specs.declared.folder.Submission.{Submission}
use Rattle.lpis_command_line.specs.Files.{AreTablesIn, IsFile, in_folder}
use Rattle.lpis_command_line.specs.declared.files.NamedFile.{NamedFile}

-- of what was found this is so; where nothing was found, it is so of nothing
abbrev pub Finds : {X : Type 0} → (X → Type 0) → Option X → Type 0
Finds P (Some x) = P x
Finds {X} P None = (x : X) → P x → ⊥

-- the argument has a word, of which this is so
abbrev pub HasWord : Text → (Text → Type 0) → List Row → Type 0
HasWord id P rows = (word : Text) × (first_of id rows ≡ Some word) × P word

-- the certificate is at the path of the argument, if this is there
abbrev pub IsCert : Text → Option NamedFile → List Row → Type 0
IsCert id None rows = first_of id rows ≡ None
IsCert id (Some i) rows = HasWord id (λ path. IsFile Cert path i) rows

-- the word is a year's: decimal digits, after a plus or none, of a number from 1 to 9999
abbrev pub IsYear : ℕ → List Row → Type 0
IsYear year = HasWord (codes "year") (λ word. IsNumeral 10 (without_leading_plus word)
    × (year ≡ digits_value 10 (without_leading_plus word)) × (1 ≤ year) × (year ≤ 9999))

-- the parcels are asked for where their option is there: `clap` gives it this word, else the other
abbrev pub IsDetail : Detail → List Row → Type 0
IsDetail Parcels rows = first_of (codes "parcels") rows ≡ Some (codes "true")
IsDetail Regions rows = first_of (codes "parcels") rows ≡ Some (codes "false")

-- the release in the folder `dir`, with the certificate `cert`, if this is there
abbrev pub IsRelease : Folder NamedFile → List Row → Type 0
IsRelease f rows = HasWord (codes "dir") (λ dir. AreTablesIn dir f.tables) rows
    × IsCert (codes "cert") f.cert rows

-- that release with its lineage table
abbrev pub IsSubmission : Submission NamedFile → List Row → Type 0
IsSubmission s rows =
    IsRelease s.folder rows × HasWord (codes "dir")
    (λ dir. IsFile Lineage (in_folder dir (codes "lineage.csv")) s.lineage) rows

-- of two words, of which the second may be left out: the last is the path of a table of points, and
-- the one before it that of a certificate
abbrev pub ArePointsLast : Option NamedFile → NamedFile → List Row → Type 0
ArePointsLast None points rows = (first_of (codes "points") rows ≡ None)
    × HasWord (codes "cert-or-points") (λ path. IsFile Points path points) rows
ArePointsLast (Some cert) points rows =
    HasWord (codes "cert-or-points") (λ path. IsFile Cert path cert) rows
    × HasWord (codes "points") (λ path. IsFile Points path points) rows
