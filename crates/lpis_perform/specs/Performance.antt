-- What a request comes to on a machine: the run that it asks for, of the bytes at the paths of its
-- files.
use Rattle.std.specs.Prelude.{◌≡◌, ◌⊎◌, ◌∷◌, [], ℕ, List, IsErrAnd, None, Result, map}
use Rattle.std.specs.Option.{option_map}
use Rattle.sqlite_trees.specs.declared.store.Store.{Ghosts}
use Rattle.lpis_command_line.specs.declared.commands.Job.{Job}
use Rattle.lpis_command_line.specs.declared.commands.Job.TheVariants as job
use Rattle.lpis_command_line.specs.declared.commands.Request.{Request}
use Rattle.lpis_command_line.specs.declared.commands.Request.TheVariants as request
use Rattle.lpis_command_line.specs.declared.files.CountryFolder.{CountryFolder}
use Rattle.lpis_command_line.specs.declared.files.NamedFile.{NamedFile}
use Rattle.lpis_register.specs.Holdings.{Holdings, RegisterState}
use Rattle.lpis_run.specs.Failures.{AreUnread, IsUnread}
use Rattle.lpis_run.specs.Folders.{folder_by, folder_named, submission_by, submission_named}
use Rattle.lpis_run.specs.Folders.{tables_by, tables_named, top_by, top_named}
use Rattle.lpis_run.specs.Outputs.{Held, held, writer}
use Rattle.lpis_run.specs.Run.{Runs, RunsBoth}
use Rattle.lpis_run.specs.Streams.{Known}
use Rattle.lpis_run.specs.declared.failure.Failure.{Failure}
use Rattle.lpis_run.specs.declared.failure.Failure.TheVariants.{Memory}
use Rattle.lpis_run.specs.declared.failure.Name.{Name}
use Rattle.lpis_run.specs.declared.failure.Name.TheVariants.{Area}
use Rattle.lpis_run.specs.declared.folder.Folder.{Folder}
use Rattle.lpis_run.specs.declared.folder.Tables.{Tables}
use Rattle.lpis_run_check.specs.AreaAnswer.{Measures}
use Rattle.lpis_run_check.specs.CheckRun.{Checks}
use Rattle.lpis_run_check.specs.CutAnswer.{Cuts}
use Rattle.lpis_run_country.specs.CountryRun.{RunsCountry}
use Rattle.lpis_run_locate.specs.LocateAnswer.{RunsLocate, points_by, points_named}
use Rattle.lpis_run_locate.specs.LocateCountryAnswer.{RunsLocateCountry}
use Rattle.lpis_run_locate.specs.declared.points_in.PointsIn.{PointsIn}
use Rattle.lpis_run_publish.specs.ExactAnswer.{RunsExact}
use Rattle.lpis_run_publish.specs.PublishAnswer.{RunsPublish}
use Rattle.lpis_run_publish.specs.TraceAnswer.{IsWholeTrace}
use Rattle.lpis_run_publish_country.specs.ExactCountryAnswer.{RunsExactCountry}
use Rattle.lpis_run_publish_country.specs.PublishCountryAnswer.{CountryFiles}
use Rattle.lpis_run_publish_country.specs.PublishCountryAnswer.{country_files, country_request}
use Rattle.lpis_run_publish_country.specs.PublishCountryRuns.{RunsPublishCountry, inputs_named}
use Rattle.lpis_perform.specs.Opening.{AreOpen, StopsOpening, bytes_of, lineage_of, texts_of}
use Rattle.lpis_perform.specs.Standing.{Standing}

-- ---- runs that have no name of their own
-- of `area`, `cut` and `check`, over what their readers give
abbrev pub RunsArea : Known → Known → Known → Result ℕ Failure → Type 0
RunsArea given = Runs (IsUnread Area) (Measures given)

abbrev pub RunsCut : {E : Type 0} → Tables Known → Held E → Held E → Result ℕ Failure → Type 0
RunsCut given = RunsBoth (AreUnread (tables_named given)) (Cuts given)

abbrev pub RunsCheck : Folder Known → Known → Known → Result ℕ Failure → Type 0
RunsCheck given = Runs (AreUnread (folder_named given)) (Checks given)

-- of `trace`, where a register holds this
abbrev pub RunsTrace : Holdings → List (List ℕ) → Known → Known → Result ℕ Failure → Type 0
RunsTrace before words = Runs (λ f. f ≡ Memory) (IsWholeTrace words before.history)

-- files, and the table of points that are looked for in them
abbrev pub points_in : {F T : Type 0} → F → T → PointsIn F T
points_in files points = record { files = files; points = points }

-- ---- opening
-- files are opened in this order, and then the run ends so; or it ended before, where one was not,
-- and left all as it was
abbrev pub AfterOpening : {X : Type 0} → (List ℕ → Standing) → List (Name × NamedFile) → X → X
    → Result ℕ Failure → Type 0 → Type 0
AfterOpening at files old new result Run =
    (AreOpen at files × Run) ⊎ (IsErrAnd result (StopsOpening at files) × (new ≡ old))

-- of a machine: what stands at each path; which file is created at a path, and what it holds
module _ (at : List ℕ → Standing) {E : Type 0} (creates : List ℕ → E → Type 0)
    (holds : E → Known) where
  -- the file at this path is created, and the run writes it and prints
  abbrev pub Creates : List ℕ → Known → Known → (Held E → Held E → Type 0) → Type 0
  Creates path old new Run = (before after : E) × creates path before
      × Run (held (writer holds before) old) (held (writer holds after) new)

  -- the files of a country
  abbrev pub files_of : CountryFolder → CountryFiles
  files_of country = country_files (top_by (bytes_of at) country.top) None
      (texts_of at country.path.now) (lineage_of at country.path.now)

  -- ---- a job
  -- over what is said of a register's store, what the register is before and after, and what the
  -- output held and holds
  abbrev pub PerformsJob : {S : Type 0} → Ghosts S → Job → RegisterState S → RegisterState S
      → Known → Known → Result ℕ Failure → Type 0
  PerformsJob store (job.Exact submission path) before after old new result = (after ≡ before)
      × AfterOpening at (submission_named submission) old new result
      (Creates path.now old new (λ x y.
      RunsExact (submission_by (bytes_of at) submission) before.held x y result))
  PerformsJob store (job.ExactCountry country path) before after old new result = (after ≡ before)
      × AfterOpening at (top_named country.top) old new result
      (Creates path.now old new (λ x y.
      RunsExactCountry (files_of country) before.held x y result))
  PerformsJob store (job.Publish year submission) before after old new result =
      AfterOpening {X = RegisterState _ × Known} at (submission_named submission) (before, old)
      (after, new) result
      (RunsPublish store year (submission_by (bytes_of at) submission) before after old new result)
  PerformsJob store (job.PublishCountry year country exact detail) before after old new result =
      AfterOpening {X = RegisterState _ × Known} at (inputs_named country.top exact) (before, old)
      (after, new) result
      (RunsPublishCountry store (country_request year detail (top_by (bytes_of at) country.top)
      (option_map (bytes_of at) exact) (texts_of at country.path.now)
      (lineage_of at country.path.now)) before after old new result)
  PerformsJob store (job.Trace ids) before after old new result = (after ≡ before)
      × RunsTrace before.held (map (λ w. w.now) ids.now) old new result

  -- ---- a request
  -- over what a job with the register at a path comes to, and what the output held and holds
  abbrev pub Performs : (List ℕ → Job → Result ℕ Failure → Type 0) → Request → Known → Known
      → Result ℕ Failure → Type 0
  Performs works (request.Area table) old new result =
      AfterOpening at ((Area, table) ∷ []) old new result
      (RunsArea (bytes_of at table) old new result)
  Performs works (request.Cut tables cert) old new result =
      AfterOpening at (tables_named tables) old new result
      (Creates cert.now old new (λ x y. RunsCut (tables_by (bytes_of at) tables) x y result))
  Performs works (request.Check release) old new result =
      AfterOpening at (folder_named release) old new result
      (RunsCheck (folder_by (bytes_of at) release) old new result)
  Performs works (request.Country country detail) old new result =
      AfterOpening at (top_named country.top) old new result
      (RunsCountry (texts_of at country.path.now) detail (top_by (bytes_of at) country.top)
      old new result)
  Performs works (request.Locate release points) old new result =
      AfterOpening at (points_named folder_named (points_in release points)) old new result
      (RunsLocate (points_by (folder_by (bytes_of at)) (bytes_of at) (points_in release points))
      old new result)
  Performs works (request.LocateCountry country points) old new result =
      AfterOpening at (points_named top_named (points_in country.top points)) old new result
      (RunsLocateCountry (texts_of at country.path.now)
      (points_by (top_by (bytes_of at)) (bytes_of at) (points_in country.top points))
      old new result)
  Performs works (request.InRegister db job) old new result = works db.now job result × (new ≡ old)
