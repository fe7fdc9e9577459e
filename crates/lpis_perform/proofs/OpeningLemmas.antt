-- Files that are opened one after the other.
use Rattle.std.proofs.Common.{◌≡◌, ◌∙◌, ◌++◌, ◌∷◌, [], ap, ap₂, codes, inl, inr, refl, true, ℕ, List, None, Option, Some}
use Rattle.lpis_command_line.specs.Files.{AreTablesIn, IsFile, in_folder, path_of}
use Rattle.lpis_command_line.specs.declared.files.NamedFile.{NamedFile}
use Rattle.lpis_run.specs.Folders.{tables_by, tables_named}
use Rattle.lpis_run.specs.Streams.{Known}
use Rattle.lpis_run.specs.declared.failure.Failure.{Failure}
use Rattle.lpis_run.specs.declared.failure.Failure.TheVariants.{Memory}
use Rattle.lpis_run.specs.declared.failure.Name.{Name}
use Rattle.lpis_run.specs.declared.failure.Name.TheVariants.{Cert}
use Rattle.lpis_run.specs.declared.folder.Folder.{Folder}
use Rattle.lpis_run.specs.declared.folder.Tables.{Tables}
use Rattle.lpis_run_country.specs.CountryFailures.{IsUnopened}
use Rattle.lpis_run_country.specs.Regions.{AreOpened}
use Rattle.lpis_perform.specs.Opening.{AreOpen, IsNotOpen, StopsOpening, bytes_of, texts_in}
use Rattle.lpis_perform.specs.private.Missing.{IsOpenIfThere}
use Rattle.lpis_perform.specs.Standing.{Absent, Holds, Locked, MayBeAbsent, Standing, Unknown, known, may_fail}

-- where there may be no file, it may fail to be opened
pub absent_fails : (s : Standing) → MayBeAbsent s → may_fail s ≡ true
absent_fails Unknown absent = refl
absent_fails (Holds bytes) absent = absurd absent
absent_fails Absent absent = refl
absent_fails Locked absent = absurd absent

module _ (at : List ℕ → Standing) where
  -- memory may run out before any of them
  pub memory_stops : (files : List (Name × NamedFile)) (f : Failure) → f ≡ Memory → StopsOpening at files f
  memory_stops [] f memory = memory
  memory_stops (file ∷ files) f memory = inl (inl memory)

  -- what stops these stops them with others behind them
  pub stops_first : (files more : List (Name × NamedFile)) (f : Failure) → StopsOpening at files f → StopsOpening at (files ++ more) f
  stops_first [] more f memory = memory_stops more f memory
  stops_first (file ∷ files) more f (inl unopened) = inl unopened
  stops_first (file ∷ files) more f (inr (opened, stopped)) = inr (opened, stops_first files more f stopped)

  -- so does what stops those behind them, where they were opened
  pub stops_behind : (files more : List (Name × NamedFile)) (f : Failure) → AreOpen at files → StopsOpening at more f → StopsOpening at (files ++ more) f
  stops_behind [] more f opened stopped = stopped
  stops_behind (file ∷ files) more f opened stopped = inr (opened.0, stops_behind files more f opened.1 stopped)

  -- these were opened, and those behind them
  pub open_both : (files more : List (Name × NamedFile)) → AreOpen at files → AreOpen at more → AreOpen at (files ++ more)
  open_both [] more first behind = behind
  open_both (file ∷ files) more first behind = (first.0, open_both files more first.1 behind)

  -- ---- a region's folder
  -- the tables that were opened are those of the folder
  tables_given : (folder : List ℕ) (t : Tables NamedFile) → AreTablesIn folder t → tables_by (bytes_of at) t ≡ (texts_in at folder).given.tables
  tables_given folder t named = cc (named.0.0, named.1.0, named.2.0)

  -- so it is with the certificate, if there is one
  pub folder_opened : (folder : List ℕ) (t : Tables NamedFile) (cert : NamedFile) (read : Tables Known) (told : Option Known) → AreTablesIn folder t
      → IsFile Cert (in_folder folder (codes "cert.txt")) cert → read ≡ tables_by (bytes_of at) t → IsOpenIfThere at cert told
      → AreOpened (texts_in at folder) (record { tables = read; cert = told })
  folder_opened folder t cert read None named file given absent =
      let same = tables_given folder t named in
      inr (rw file.0 at (absent_fails (at (path_of cert)) absent), cc (given, same))
  folder_opened folder t cert read (Some bytes) named file given is =
      let made : Tables Known → Known → Folder Known = λ tables told. record { tables = tables; cert = Some told } in
      inl (ap₂ made (given ∙ tables_given folder t named) (is ∙ ap (λ (path : List ℕ). known (at path)) file.0))

  -- a table of the folder was not opened
  pub tables_unopened : (folder : List ℕ) (t : Tables NamedFile) (f : Failure) → AreTablesIn folder t → StopsOpening at (tables_named t) f → IsUnopened (texts_in at folder) f
  tables_unopened folder t f named (inl (inl memory)) = inl memory
  tables_unopened folder t f named (inl (inr (fails, is))) = inr (inl (rw named.0.0 at fails, rw named.0.1 at is))
  tables_unopened folder t f named (inr (opened, inl (inl memory))) = inl memory
  tables_unopened folder t f named (inr (opened, inl (inr (fails, is)))) = inr (inr (inl (rw named.1.0 at fails, rw named.1.1 at is)))
  tables_unopened folder t f named (inr (opened, inr (also, inl (inl memory)))) = inl memory
  tables_unopened folder t f named (inr (opened, inr (also, inl (inr (fails, is))))) = inr (inr (inr (inl (rw named.2.0 at fails, rw named.2.1 at is))))
  tables_unopened folder t f named (inr (opened, inr (also, inr (last, memory)))) = inl memory

  -- its certificate was not
  pub cert_unopened : (folder : List ℕ) (cert : NamedFile) (f : Failure) → IsFile Cert (in_folder folder (codes "cert.txt")) cert → IsNotOpen at cert f → IsUnopened (texts_in at folder) f
  cert_unopened folder cert f file (inl memory) = inl memory
  cert_unopened folder cert f file (inr (fails, is)) = inr (inr (inr (inr (rw file.0 at fails, rw file.1 at is))))
