-- Tables of version 3, made of those that were found, and read back.
use Rattle.std.proofs.Common.{arith, ◌∙◌, ◌≡◌, ◌≤◌, inl, inr, false, refl, subst, sym, true, List, Ok, Err, IsTrue, Result, OnOk}
use Rattle.sqlite.specs.Effect.{Database, IsDatabase}
use Rattle.sqlite.specs.Held.{Held}
use Rattle.sqlite.specs.State.{IsRolledBack, IsUnchanged}
use Rattle.sqlite.specs.Steps.{FailsToCommit}
use Rattle.sqlite.specs.declared.error.Error.{Error}
use Rattle.sqlite.specs.declared.error.Error.TheVariants.{SqliteFailure}
use Rattle.sqlite.specs.declared.error.ErrorCode.TheVariants.{OutOfMemory}
use Rattle.sqlite_trees.specs.declared.store.Store as store
use Rattle.lpis_register_rows.specs.Content.{StoredSpan}
use Rattle.lpis_register_rows.specs.Histories.{AreSpansOf}
use Rattle.lpis_register_sql.proofs.Shared.{IsCommitted, undone_stops}
use Rattle.lpis_register_sql.specs.Hiding.{hides_table}
use Rattle.lpis_register_sql.specs.Making.{settling_statements}
use Rattle.lpis_register_sql.specs.Presence.{AreThere, completed, is_any}
use Rattle.lpis_register_sql.specs.Stopping.{BoundStatement, RanAlone, StopsWithin}
use Rattle.lpis_register_sql.specs.Within.{HasTables, IsQuiet, Makes}
use Rattle.lpis_register_sql.specs.declared.found.Found.{Found}
use Rattle.lpis_register.proofs.Common.{Entry, First, HasCleanDisk, IsFailure, PublishFault, Shape, Survives, Trees, Version, state, survives_weaker}
use Rattle.lpis_register.proofs.RunningLemmas.{committed_runs, dropped_runs, dropped_runs_after}
use Rattle.lpis_register.proofs.WritingLemmas.{commit_fails, confirmed_writes, dropped, dropped_after, ran_alone, unsaid_after}
use Rattle.lpis_register.specs.Failing.{IsUnsaid}
use Rattle.lpis_register.specs.FailingToOpen.{FailsToSettle}
use Rattle.lpis_register.specs.Opening.{RanSettlingTo, Settling}
use Rattle.lpis_register.specs.Running.{RanTo, RunsAlone}
use Rattle.lpis_register.specs.Saying.{HasWhole, LeavesSaid, SaysTables}
use Rattle.lpis_register.specs.declared.fault.PublishFault.TheVariants.{Memory, Store}
use Rattle.lpis_register.specs.private.Commits.{Settles}

module _ {S : Type 0} (g : store.Ghosts S) (version : Version) (h : List Entry) (shapes : List Shape) (old : Held S) where
  module _ (found : Found) (there : AreThere old.schema found) (spans : List StoredSpan) (are : version ≡ First → AreSpansOf spans h) (first mid : Held S)
      (begun : first ≡ record old { in_transaction = true }) where
    abbrev settling : Settling version h old
    settling = record { found = found; there = there; spans = spans; are = are }

    abbrev xs : List BoundStatement
    xs = settling_statements version found spans

    stopped : (end : Held S) (e : Error) (fault : PublishFault) → (e ≡ SqliteFailure OutOfMemory → fault ≡ Memory) → fault ≡ Store → StopsWithin g xs (record old { in_transaction = true }) end e
        → FailsToSettle g version h shapes old end
    stopped end e fault memory is (inl refused) = absurd (let m = memory refused in cc)
    stopped end e fault memory is (inr stops) = record { by = settling; fails = inl stops }

    led : (end : Held S) → Survives (state g old) (state g end) (RanTo g xs old) → Survives (state g old) (state g end) (RanSettlingTo g version h old)
    led end left = survives_weaker (state g old) (state g end) _ _ (λ clean db to. (settling, to)) left

    -- its statements fail
    pub unmade_settles : (end : Held S) (e : Error) (fault : PublishFault) → (e ≡ SqliteFailure OutOfMemory → fault ≡ Memory) → IsFailure fault → Makes g xs first mid (Err e)
        → Survives (state g mid) (state g end) (λ _. ⊥) → (HasCleanDisk (state g end) → IsRolledBack (state g mid) (state g end)) → Settles g version h shapes old end (Err fault)
    unmade_settles end e fault memory failure made drops undone = record {
      writes = dropped g old first mid end begun made.quiet h shapes fault (LeavesSaid h shapes) drops undone;
      whole = λ clean. tt;
      ran = λ clean. tt;
      left = led end (dropped_runs g old first mid end begun made.quiet xs {X = Unit {0}} fault drops).left;
      failure = failure;
      cause = λ clean up seen is. stopped end e fault memory is (undone_stops old {end = end} begun refl (Err e) refl made drops up clean);
    }

    module _ (x : Unit {0}) (made : Makes g xs first mid (Ok x)) (sound : IsTrue (state g old).is_open → IsDatabase (state g old).now)
        (tables : HasCleanDisk (state g mid) → IsTrue (state g first).is_open → IsTrue first.in_transaction → AreThere first.schema found → hides_table first.schema ≡ false
        → IsDatabase (state g first).now → HasTables (completed found) (state g mid)) (seen : hides_table old.schema ≡ false) (last : Held S) (quiet : IsQuiet (state g mid) (state g last)) where
      complete_there : HasCleanDisk (state g mid) → IsTrue (state g first).is_open → IsTrue first.in_transaction → HasTables (completed found) (state g mid)
      complete_there clean up within = tables clean up within
          (subst (λ (h : Held S). AreThere h.schema found) (sym begun) there) (subst (λ (h : Held S). hides_table h.schema ≡ false) (sym begun) seen)
          (subst (λ h. IsDatabase (state g h).now) (sym begun) (sound (subst (λ h. IsTrue (state g h).is_open) begun up)))

      counts : (state g old).faults ≤ (state g mid).faults
      counts = subst (λ h. (state g h).faults ≤ (state g mid).faults) begun made.quiet.survives.counts

      -- the tables are not read back, or say something else
      pub unsaid_settles : (end : Held S) (fault : PublishFault) → IsFailure fault
          → (HasCleanDisk (state g last) → IsTrue (state g mid).is_open → fault ≡ Store → IsUnsaid (completed found) (state g mid) (state g last) h shapes)
          → Survives (state g last) (state g end) (λ _. ⊥) → (HasCleanDisk (state g end) → IsRolledBack (state g last) (state g end)) → Settles g version h shapes old end (Err fault)
      unsaid_settles end fault failure unsaid drops undone = record {
        writes = dropped_after g old first mid last end begun made.quiet quiet h shapes fault (LeavesSaid h shapes) drops undone;
        whole = λ clean. tt;
        ran = λ clean. tt;
        left = led end (dropped_runs_after {X = Unit {0}} g old first mid last end begun made.quiet quiet xs fault drops).left;
        failure = failure;
        cause = λ clean up visible is.
            let it = unsaid_after g old first mid last end begun xs x made (completed found) complete_there quiet h shapes (λ late on. unsaid late on is) drops clean up in
            record { by = settling; fails = inr (record { reached = mid; counts = counts; ran = it.0; found = completed found; there = it.1; unsaid = it.2 }) };
      }

      module _ (told : HasCleanDisk (state g last) → (is_any (completed found) ≡ true) × ((version : Version) × SaysTables (completed found) (state g mid).now version h shapes)
          × IsUnchanged (state g mid) (state g last)) (end : Held S) (ends : Survives (state g last) (state g end) (λ db. db ≡ (state g last).now.trees))
          (law : IsTrue (state g end).is_open → (db : Trees) → (state g end).may_leave db → db ≡ (state g end).committed.trees) where
        runs : (answer : Result (Unit {0}) PublishFault) → (HasCleanDisk (state g end) → OnOk answer (RanAlone g xs old end)) → RunsAlone g xs old end answer
        runs answer ran = committed_runs g old first mid last end begun xs x made quiet (λ late. (told late).2) ends answer ran

        all_there : (y : Unit {0}) → HasCleanDisk (state g end) → IsCommitted (state g last) (state g end) (Ok y) → HasWhole (state g end).now
        all_there y clean done =
            let late : HasCleanDisk (state g last) = omega (arith, clean, ends.clean) in
            let before : HasCleanDisk (state g mid) = omega (arith, late, quiet.survives.clean) in
            let same = (told late).2.0 in
            let there = complete_there before ((made.quiet.kept before).was_open same.was_open) (subst (λ h. IsTrue h.in_transaction) (sym begun) refl) in (
              completed found,
              subst (λ (d : Database). AreThere d.schema (completed found)) (sym (done.1.now_is ∙ same.now_is)) there.there,
              record { format = refl; years = refl; spans = refl; lines = refl; texts = refl; marks = refl },
            )

        -- that is committed
        pub said_settles : (y z : Unit {0}) → (HasCleanDisk (state g end) → IsCommitted (state g last) (state g end) (Ok y)) → Settles g version h shapes old end (Ok z)
        said_settles y z ok = record {
          writes = confirmed_writes g old first mid last end begun xs x made (completed found) complete_there quiet h shapes told ends (Ok y) (λ clean. tt) (Ok z) (λ P p. p) (λ P p. p) ok law;
          whole = λ clean. all_there y clean (ok clean);
          ran = λ clean. (settling, ran_alone g old first mid last end begun xs x made (completed found) complete_there quiet h shapes told ends (Ok y) ok clean);
          left = led end (runs (Ok z) (ran_alone g old first mid last end begun xs x made (completed found) complete_there quiet h shapes told ends (Ok y) ok)).left;
          failure = tt;
          cause = λ clean up visible. tt;
        }

        -- or it is not
        pub uncommitted_settles : (e : Error) (fault : PublishFault) → (e ≡ SqliteFailure OutOfMemory → fault ≡ Memory) → IsFailure fault
            → (HasCleanDisk (state g end) → FailsToCommit (state g last) (state g end) e) → Settles g version h shapes old end (Err fault)
        uncommitted_settles e fault memory failure err = record {
          writes = confirmed_writes g old first mid last end begun xs x made (completed found) complete_there quiet h shapes told ends (Err e) err (Err fault) (λ P p. p) (λ P p. p) (λ clean. tt) law;
          whole = λ clean. tt;
          ran = λ clean. tt;
          left = led end (runs (Err fault) (λ clean. tt)).left;
          failure = failure;
          cause = λ clean up visible is. stopped end e fault memory is
              (commit_fails g old first mid last end begun xs x made (completed found) complete_there quiet h shapes told ends (Err e) err e refl clean);
        }
