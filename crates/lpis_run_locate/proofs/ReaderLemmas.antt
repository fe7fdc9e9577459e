-- The readers of files and points, where a failure names none of them.
use Rattle.std.proofs.Common.{◌≡◌, ◌++◌, ◌∷◌, [], refl, length, is_some, Option, None, Some}
use Rattle.lpis_run.specs.Failures.{AreUntouched}
use Rattle.lpis_run.specs.Folders.{cert_named, folder_named, tables_named}
use Rattle.lpis_run.specs.declared.failure.Failure.{Failure}
use Rattle.lpis_run.specs.declared.failure.Name.TheVariants.{Points}
use Rattle.lpis_run.specs.declared.folder.Folder.{Folder}
use Rattle.lpis_run.proofs.Shared.{NamesNone, untouched_unnamed}
use Rattle.lpis_run_locate.specs.LocateAnswer.{points_named}
use Rattle.lpis_run_locate.specs.declared.points_in.PointsIn.{PointsIn}

-- nothing is said of them
pub points_unnamed : {R : Type 0} (old new : PointsIn (Folder R) R) (f : Failure) → is_some new.files.cert ≡ is_some old.files.cert → NamesNone f
    → AreUntouched (points_named folder_named old) (points_named folder_named new) f
points_unnamed {R = R} old new f same none = untouched_unnamed (points_named folder_named old) (points_named folder_named new) f (as-many old.files.cert new.files.cert same) none
  where
    as-many : (before after : Option R) → is_some after ≡ is_some before
        → length ((tables_named old.files.tables ++ cert_named before) ++ (Points, old.points) ∷ []) ≡ length ((tables_named new.files.tables ++ cert_named after) ++ (Points, new.points) ∷ [])
    as-many None None e = refl
    as-many None (Some b) e = absurd (cc e)
    as-many (Some a) None e = absurd (cc e)
    as-many (Some a) (Some b) e = refl
