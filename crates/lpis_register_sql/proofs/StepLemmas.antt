-- How the steps of a publication join.
use Rattle.std.proofs.Common.{◌≡◌, List, [], ◌∷◌, arith, refl, sym, ap, subst, ◌∙◌, false, true, Result, OnOk, inl, IsTrue}
use Rattle.lpis_register_sql.proofs.Common.{State, HasCleanDisk, Survives, state, Error}
use Rattle.lpis_register_sql.specs.Within.{IsQuiet}
use Rattle.sqlite.specs.State.{IsRolledBack, IsUnchanged, KeepsCounts, Shows}
use Rattle.sqlite.specs.Held.{Held}
use Rattle.sqlite.proofs.StateLemmas.{survives_then}
use Rattle.lpis_register_sql.specs.Quiet.{IsSettled, StaysSettled}
use Rattle.lpis_register_sql.specs.Stopping.{BoundStatement, Ran}
use Rattle.sqlite_trees.specs.declared.store.Store as store

-- two quiet calls in a row are quiet: nothing is committed, and a crash leaves nothing new
pub quiet_on : (a b c : State) → IsQuiet a b → IsQuiet b c → IsQuiet a c
quiet_on a b c one two = record {
  kept = λ clean.
      let p = one.kept (omega (arith, two.survives.clean)) in
      let q = two.kept clean in record { was_open = λ o. p.was_open (q.was_open o); committed = λ o. q.committed o ∙ p.committed (q.was_open o) };
  survives = survives_then a b c (λ _. ⊥) (λ _. ⊥) (λ _. ⊥) (λ _ db none. none) (λ _ db none. none) one.survives two.survives;
}

-- so is no call
pub quiet_none : (a : State) → IsQuiet a a
quiet_none a = record {
  kept = λ clean. record { was_open = λ up. up; committed = λ up. refl };
  survives = record { clean = omega arith; shield = λ h. h; counts = omega arith; limit = refl; closes = λ clean up. inl up; crash = λ clean db may. inl may };
}

-- ---- a database that is what it was

-- a call left it as it was
pub unchanged_settled : (old new : State) → IsUnchanged old new → StaysSettled old new
unchanged_settled old new h was =
    (record { is_open = h.0.is_open; autocommit = h.0.mode ∙ was.autocommit; settled = h.0.now_is ∙ was.settled ∙ sym h.0.committed_is }, h.0.now_is)

-- a transaction over it was undone
pub undone_settled : (old last new : State) → (IsSettled old → last.committed ≡ old.now) → IsRolledBack last new → IsTrue new.is_open → StaysSettled old new
undone_settled old last new same back up was =
    let it = back.undone up in (record { is_open = up; autocommit = back.autocommit; settled = it.0 ∙ sym it.1 }, it.0 ∙ same was)

-- statements that were run leave the transaction open
pub ran_open : {S : Type 0} (g : store.Ghosts S) (xs : List BoundStatement) (a b : Held S) → Ran g xs a b → IsTrue (state g a).is_open → IsTrue a.in_transaction
    → IsTrue (state g b).is_open × IsTrue b.in_transaction
ran_open g [] a b r up within = subst (λ h. IsTrue (state g h).is_open × IsTrue h.in_transaction) r (up, within)
ran_open g (x ∷ xs) a b (mid, count, ran, same, more) up within = ran_open g xs mid b more ran.1.is_open ran.1.mode

-- a transaction in which nothing was committed, begun over what was shown
pub begun_over : {S : Type 0} (g : store.Ghosts S) (held first last : Held S) → first ≡ record held { in_transaction = true } → IsQuiet (state g first) (state g last) → HasCleanDisk (state g last)
    → IsTrue (state g last).is_open → IsSettled (state g held) → (state g last).committed ≡ (state g held).now
begun_over g held first last begun quiet clean up was = (quiet.kept clean).committed up ∙ ap (λ h. (state g h).committed) begun ∙ sym was.settled

-- one that is dropped
pub dropped_settled : {S : Type 0} (g : store.Ghosts S) (held first last end : Held S) → first ≡ record held { in_transaction = true } → IsQuiet (state g first) (state g last)
    → Survives (state g last) (state g end) (λ _. ⊥) → (HasCleanDisk (state g end) → IsRolledBack (state g last) (state g end)) → HasCleanDisk (state g end) → IsTrue (state g end).is_open
    → StaysSettled (state g held) (state g end)
dropped_settled g held first last end begun quiet drops undone clean up =
    let back = undone clean in
    undone_settled (state g held) (state g last) (state g end)
    (λ was. begun_over g held first last begun quiet (omega (arith, clean, drops.clean)) (back.was_open up) was) back up

-- what a commit answers
abbrev pub IsCommitted : State → State → Result (Unit {0}) Error → Type 0
IsCommitted last new r = OnOk r (IsTrue last.in_transaction × Shows last new last.now last.now false × KeepsCounts last new × (new.marks ≡ []))
