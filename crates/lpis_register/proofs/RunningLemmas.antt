-- The statements of a transaction in which tables are read back, and what a crash on the way leaves.
use Rattle.std.proofs.Common.{◌≡◌, ◌∙◌, List, Ok, Err, Result, OnOk, IsTrue, ap, arith, refl, subst, sym, true}
use Rattle.sqlite.proofs.Callers.{survives_begin}
use Rattle.sqlite.proofs.StateLemmas.{survives_then}
use Rattle.sqlite.specs.Effect.{Database}
use Rattle.sqlite.specs.Held.{Held}
use Rattle.sqlite.specs.State.{IsUnchanged}
use Rattle.sqlite_trees.specs.declared.store.Store as store
use Rattle.lpis_register_sql.proofs.Shared.{quiet_on}
use Rattle.lpis_register_sql.specs.Stopping.{BoundStatement, Ran, RanAlone}
use Rattle.lpis_register_sql.specs.Within.{IsQuiet, Makes}
use Rattle.lpis_register.proofs.Common.{HasCleanDisk, Survives, state, survives_weaker}
use Rattle.lpis_register.proofs.HoldingLemmas.{nothing_done}
use Rattle.lpis_register.specs.Failing.{writing_statements}
use Rattle.lpis_register.specs.Accepting.{IsAccepted}
use Rattle.lpis_register.specs.Holdings.{Candidate, RegisterState}
use Rattle.lpis_register.specs.Running.{RanRelease, RanTo, RunsAccepted, RunsAlone, RunsRelease}
use Rattle.lpis_register.specs.declared.accepting.Accepted.{Accepted}
use Rattle.lpis_register.specs.declared.accepting.Writing.{Writing}

module _ {S : Type 0} (g : store.Ghosts S) (held first last end : Held S) (begun : first ≡ record held { in_transaction = true })
    (quiet : IsQuiet (state g first) (state g last)) (xs : List BoundStatement) where
  -- one that is dropped leaves nothing new
  pub dropped_runs : {X E : Type 0} (e : E) → Survives (state g last) (state g end) (λ _. ⊥) → RunsAlone g {X = X} xs held end (Err e)
  dropped_runs e drops = record {
    ran = λ clean. tt;
    left = survives_then (state g held) (state g last) (state g end) (λ _. ⊥) (λ _. ⊥) (RanTo g xs held) (λ _ db none. absurd none) (λ _ db none. absurd none)
        (survives_begin g held (state g last) _ (rw begun at quiet.survives)) drops;
  }

-- so it is where tables were read before
pub dropped_runs_after : {S X E : Type 0} (g : store.Ghosts S) (held first mid last end : Held S) → first ≡ record held { in_transaction = true } → IsQuiet (state g first) (state g mid)
    → IsQuiet (state g mid) (state g last) → (xs : List BoundStatement) (e : E) → Survives (state g last) (state g end) (λ _. ⊥) → RunsAlone g {X = X} xs held end (Err e)
dropped_runs_after g held first mid last end begun one two xs e drops =
    dropped_runs g held first last end begun (quiet_on (state g first) (state g mid) (state g last) one two) xs e drops

-- one that is committed, or fails to be, leaves what its statements lead to
pub committed_runs : {S X E : Type 0} (g : store.Ghosts S) (held first mid last end : Held S) → first ≡ record held { in_transaction = true }
    → (xs : List BoundStatement) (x : Unit {0}) → Makes g xs first mid (Ok x) → IsQuiet (state g mid) (state g last)
    → (HasCleanDisk (state g last) → IsUnchanged (state g mid) (state g last)) → Survives (state g last) (state g end) (λ db. db ≡ (state g last).now.trees)
    → (answer : Result X E) → (HasCleanDisk (state g end) → OnOk answer (RanAlone g xs held end)) → RunsAlone g xs held end answer
committed_runs g held first mid last end begun xs x made quiet same ends answer ran = record { ran = ran; left = left }
  where
    late : HasCleanDisk (state g end) → HasCleanDisk (state g last)
    late clean = omega (arith, clean, ends.clean)

    before : HasCleanDisk (state g end) → HasCleanDisk (state g mid)
    before clean = omega (arith, clean, ends.clean, quiet.survives.clean)

    led : HasCleanDisk (state g end) → Ran g xs (record held { in_transaction = true }) mid
    led clean =
        let up = (made.quiet.kept (before clean)).was_open (same (late clean)).0.was_open in
        subst (λ h. Ran g xs h mid) begun (made.ends (before clean) up (subst (λ h. IsTrue h.in_transaction) (sym begun) refl))

    both : IsQuiet (state g first) (state g last)
    both = quiet_on (state g first) (state g mid) (state g last) made.quiet quiet

    left : Survives (state g held) (state g end) (RanTo g xs held)
    left = survives_then (state g held) (state g last) (state g end) (λ _. ⊥) (λ db. db ≡ (state g last).now.trees) (RanTo g xs held) (λ _ db none. absurd none)
        (λ clean db is. (mid, led clean, is ∙ ap (λ (d : Database). d.trees) (same (late clean)).0.now_is))
        (survives_begin g held (state g last) _ (rw begun at both.survives)) ends

-- nothing was run
pub none_run : {S X E : Type 0} (g : store.Ghosts S) (xs : List BoundStatement) (held : Held S) (e : E) → RunsAlone g {X = X} xs held held (Err e)
none_run g xs held e = record { ran = λ clean. tt; left = nothing_done (RanTo g xs held) (state g held) }

module _ {S : Type 0} (g : store.Ghosts S) (w : Writing) (it old : RegisterState S) (conn : Held S) (same : it ≡ old) where
  -- of a register as it was, with another answer
  pub runs_ok : {X Y E : Type 0} (x : X) (y : Y) → RunsAlone g {E = E} (writing_statements w it.held) it.conn conn (Ok x) → RunsAlone g {E = E} (writing_statements w old.held) old.conn conn (Ok y)
  runs_ok {E = E} x y runs =
      let r = subst (λ s. RunsAlone g {E = E} (writing_statements w s.held) s.conn conn (Ok x)) same runs in
      record { ran = r.ran; left = r.left }

  pub runs_err : {X Y E : Type 0} (e : E) → RunsAlone g {X = X} (writing_statements w it.held) it.conn conn (Err e) → RunsAlone g {X = Y} (writing_statements w old.held) old.conn conn (Err e)
  runs_err {X = X} e runs =
      let r = subst (λ s. RunsAlone g {X = X} (writing_statements w s.held) s.conn conn (Err e)) same runs in
      record { ran = λ clean. tt; left = r.left }

module _ {S X E : Type 0} (g : store.Ghosts S) (c : Candidate) where
  -- a release that was accepted is written
  pub runs_accepted : (a : Accepted) (old new : RegisterState S) (answer : Result X E) → IsAccepted c old.held a → RunsRelease g a old new answer → RunsAccepted g c old new answer
  runs_accepted a old new answer made runs = record {
    ran = λ clean. by answer (runs.ran clean);
    left = survives_weaker (state g old.conn) (state g new.conn) _ _ (λ clean db to. (a, made, to)) runs.left;
  }
    where
      by : (answer : Result X E) → OnOk answer (RanRelease g a old new) → OnOk answer ((a : Accepted) × IsAccepted c old.held a × RanRelease g a old new)
      by (Ok x) ran = (a, made, ran)
      by (Err e) ran = tt

  -- one that was not is not
  pub runs_not_accepted : (it : RegisterState S) (e : E) → RunsAccepted g {X = X} c it it (Err e)
  runs_not_accepted it e = record { ran = λ clean. tt; left = nothing_done _ (state g it.conn) }
