-- The answer to points in a release: text and status, of the bytes of the release's files and of
-- the table of points.
use Rattle.std.specs.Prelude.{◌≡◌, ◌⊎◌, ◌++◌, ◌∷◌, [], ℕ, List, Result, Ok, Err, codes}
use Rattle.lpis_release.specs.Release.{Contents}
use Rattle.lpis_run.specs.CheckAnswer.{Answer, AreRead, Inputs, IsProvedOf, IsRefusal}
use Rattle.lpis_run.specs.Failures.{AreUnread}
use Rattle.lpis_run.specs.Folders.{folder_named}
use Rattle.lpis_run.specs.Run.{OfRead, Runs}
use Rattle.lpis_run.specs.Status.{done, unreadable}
use Rattle.lpis_run.specs.Streams.{IsRead, Known}
use Rattle.lpis_run.specs.declared.failure.Failure.{Failure}
use Rattle.lpis_run.specs.declared.failure.Name.{Name}
use Rattle.lpis_run.specs.declared.failure.Name.TheVariants.{Points}
use Rattle.lpis_run.specs.declared.folder.Folder.{Folder}
use Rattle.lpis_places.specs.declared.fault.PointsFault.{PointsFault}
use Rattle.lpis_places.specs.Points.{Given, points_of}
use Rattle.lpis_run_locate.specs.LocateLines.{AreLines, points_refusal_text}
use Rattle.lpis_run_locate.specs.declared.points_in.PointsIn.{PointsIn}

-- of a release and what the table of points says: the line of its first fault, or the line of each
-- point in the order of the rows, and a yes
abbrev pub IsPointsAnswer : Contents → Result (List Given) PointsFault → Answer → Type 0
IsPointsAnswer r (Err fault) a = a ≡ (points_refusal_text fault, unreadable)
IsPointsAnswer r (Ok points) a =
    (lines : List ℕ) × AreLines r points lines × (a ≡ (lines ++ codes "yes\n", done))

-- the answer to the bytes of a release's files and of a table of points: what `check` refuses comes
-- first, with its line; then, of a release that is a sound map, the points
abbrev pub IsLocateAnswer : PointsIn Inputs (List ℕ) → Answer → Type 0
IsLocateAnswer x a =
    IsRefusal x.files a
    ⊎ ((r : Contents) × IsProvedOf x.files r × IsPointsAnswer r (points_of x.points) a)

-- the same files and table, of which something else is kept
abbrev pub points_by : {F G S T : Type 0} → (F → G) → (S → T) → PointsIn F S → PointsIn G T
points_by files_by f x = record { files = files_by x.files; points = f x.points }

-- the table of points is read behind the files
abbrev pub points_named : {F T : Type 0} → (F → List (Name × T)) → PointsIn F T → List (Name × T)
points_named files_named x = files_named x.files ++ (Points, x.points) ∷ []

-- the files are what readers reported in this sense, and so is the table of points
abbrev pub ArePointsRead : {F G : Type 0} → (F → G → Type 0) → PointsIn F (List ℕ)
    → PointsIn G Known → Type 0
ArePointsRead AreFilesRead x given = AreFilesRead x.files given.files
    × IsRead x.points given.points

-- how a run that locates ends: it has an answer to what five readers reported
abbrev pub RunsLocate : PointsIn (Folder Known) Known → Known → Known → Result ℕ Failure → Type 0
RunsLocate given = Runs (AreUnread (points_named folder_named given))
    (λ a. OfRead (ArePointsRead AreRead) given (λ x. IsLocateAnswer x a))
