-- The readers of a folder, where a failure names none of them.
use Rattle.std.proofs.Common.{◌≡◌, ◌++◌, refl, length, is_some, Option, None, Some}
use Rattle.lpis_run.specs.Failures.{AreUntouched}
use Rattle.lpis_run.specs.Folders.{cert_named, folder_named, tables_named}
use Rattle.lpis_run.specs.declared.failure.Failure.{Failure}
use Rattle.lpis_run.specs.declared.folder.Folder.{Folder}
use Rattle.lpis_run.proofs.Shared.{NamesNone, untouched_unnamed}

-- nothing is said of them
pub folder_unnamed : {R : Type 0} (old new : Folder R) (f : Failure) → is_some new.cert ≡ is_some old.cert → NamesNone f → AreUntouched (folder_named old) (folder_named new) f
folder_unnamed {R = R} old new f same none = untouched_unnamed (folder_named old) (folder_named new) f (as-many old.cert new.cert same) none
  where
    as-many : (before after : Option R) → is_some after ≡ is_some before → length (tables_named old.tables ++ cert_named before) ≡ length (tables_named new.tables ++ cert_named after)
    as-many None None e = refl
    as-many None (Some b) e = absurd (cc e)
    as-many (Some a) None e = absurd (cc e)
    as-many (Some a) (Some b) e = refl
