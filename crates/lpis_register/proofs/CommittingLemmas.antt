-- Writing a release that was accepted.
use Rattle.std.proofs.Common.{◌≡◌, ◌≤◌, ◌⊎◌, ◌∙◌, inl, inr, ℕ, Bool, List, Result, Ok, Err, IsTrue, ap, pos, refl, sym, subst, true, false}
use Rattle.sqlite.specs.Held.{Held}
use Rattle.sqlite.specs.declared.error.Error.{Error}
use Rattle.sqlite.specs.declared.error.Error.TheVariants.{SqliteFailure}
use Rattle.sqlite.specs.declared.error.ErrorCode.TheVariants.{OutOfMemory}
use Rattle.sqlite_trees.specs.declared.store.Store as store
use Rattle.lpis_lineage.specs.Accepts.{Adds}
use Rattle.lpis_lineage.specs.Changes.{Changes}
use Rattle.lpis_lineage.specs.Lawful.{IsLawful, RowsFit}
use Rattle.lpis_lineage.specs.Lineage.{last_year}
use Rattle.lpis_register_rows.specs.Shapes.{text_edits}
use Rattle.lpis_register_sql.specs.Presence.{AreThere}
use Rattle.lpis_register_sql.specs.Stopping.{Ran, StopsWithin, release_statements}
use Rattle.lpis_register_sql.specs.declared.found.Found.{Found}
use Rattle.lpis_register.proofs.Common.{Entry, PublishFault, Shape, State, Survives, state, survives_weaker}
use Rattle.lpis_register.proofs.HoldingLemmas.{nothing_done}
use Rattle.lpis_register.specs.Accepting.{IsPrepared}
use Rattle.lpis_register.specs.Failing.{FailsToWrite, IsUnsaid, writing_statements}
use Rattle.lpis_register.specs.Holdings.{Candidate, Holdings, RegisterState, holdings}
use Rattle.lpis_register.specs.Publishing.{FollowsHistory, LeavesRelease, Stores}
use Rattle.lpis_register.specs.Saying.{IsSaid, LeavesSaid}
use Rattle.lpis_register.specs.declared.accepting.Accepted.{Accepted}
use Rattle.lpis_register.specs.declared.accepting.Writing.{Writing}
use Rattle.lpis_register.specs.declared.fault.PublishFault.TheVariants.{Store, StoreMemory}
use Rattle.lpis_register.specs.private.Writes.{Commits, IsToWrite, WritesRelease, written}

-- ---- the history with the release at its end

-- an accepted candidate that was added, lawfully and with its rows, follows the history, and its shapes are kept
pub follows_as : (c : Candidate) (h k : List Entry) (a : Accepted) → Adds h k a.writing.year a.live a.writing.change.rows → IsLawful k → RowsFit k → IsPrepared c h a
    → FollowsHistory c h (written a.writing k)
follows_as c h k a (e, is, year, entry) lawful fits made =
    let step = made.step_is in
    record {
      adds = (e, is, year ∙ made.year_is, record { ids = λ q. entry.ids q ∙ step.live_are q; rows_are = entry.rows_are ∙ step.change_is.rows_are });
      lawful = lawful;
      fits = fits;
      keeps = made.kept_are.shapes_are;
    }

-- ---- both

-- a candidate that is not at the history's end yet, and of which nothing was written
pub not_begun : {E : Type 0} (c : Candidate) (before after : Holdings) (st : State) → after.history ≡ before.history → (e : E) → Commits c before after st st (Err e)
not_begun c before after st same e = record {
  follows = tt;
  refused = same;
  writes = record {
    ok = λ clean. tt;
    err = λ clean up was. (was, refl);
    crash = nothing_done (LeavesRelease c before.history) st;
    durable = λ clean. tt;
  };
}

module _ (w : Writing) (last : ℕ) (h now : List Entry) (kept : List Shape) (due : IsToWrite w last h now) (old new : State) where
  abbrev Wrote : {E : Type 0} → Result (Unit {0}) E → Type 0
  Wrote r = WritesRelease (written w now) (LeavesSaid now w.shapes.items) old new r

  crashed : {E : Type 0} (r : Result (Unit {0}) E) → Wrote r → Survives old new (LeavesRelease due.candidate h)
  crashed r wrote = survives_weaker old new _ _ (λ clean db left. (written w now, due.follows, left)) wrote.crash

  pub write_commits : {E F : Type 0} (x y : Unit {0}) → Wrote {E = E} (Ok x) → Commits {E = F} due.candidate (holdings h kept) (written w now) old new (Ok y)
  write_commits {E} x y wrote = record {
    follows = due.follows;
    refused = tt;
    writes = record { ok = wrote.ok; err = λ clean up. tt; crash = crashed {E = E} (Ok x) wrote; durable = wrote.durable };
  }

  pub taken_back : {E F : Type 0} (k : List Entry) (e : E) (f : F) → k ≡ h → Wrote (Err e) → Commits due.candidate (holdings h kept) (written w k) old new (Err f)
  taken_back k e f same wrote = record {
    follows = tt;
    refused = same;
    writes = record { ok = λ clean. tt; err = wrote.err; crash = crashed (Err e) wrote; durable = λ clean. tt };
  }

-- ---- as the register says it

module _ {S : Type 0} (g : store.Ghosts S) (c : Candidate) (old new : RegisterState S) where
  -- what a commit does is what publishing promises of Ok
  pub stored_ok : (after : Holdings) (x : Unit {0}) (change : Changes) → new.held ≡ after → Commits {E = PublishFault} c old.held after (state g old.conn) (state g new.conn) (Ok x)
      → Stores g c old new (Ok change)
  stored_ok after x change same m = record {
    ok = λ clean. subst (λ (held : Holdings). IsSaid (state g new.conn) held.history held.shapes) (sym same) (m.writes.ok clean);
    err = λ clean up. tt;
    crash = m.writes.crash;
    durable = λ clean db may. subst (λ (held : Holdings). LeavesSaid held.history held.shapes db) (sym same) (m.writes.durable clean db may);
  }

  -- what a failed one does is what it promises of an error
  pub stored_err : (after : Holdings) (e : PublishFault) → Commits c old.held after (state g old.conn) (state g new.conn) (Err e) → Stores g c old new (Err e)
  stored_err after e m = record { ok = λ clean. tt; err = m.writes.err; crash = m.writes.crash; durable = λ clean. tt }

-- a register that is left alone keeps what publishing promises of an error
pub stored_not : {S : Type 0} (g : store.Ghosts S) (c : Candidate) (it : RegisterState S) (e : PublishFault) → Stores g c it it (Err e)
stored_not g c it e = record {
  ok = λ clean. tt;
  err = λ clean up was. (was, refl);
  crash = nothing_done (LeavesRelease c it.held.history) (state g it.conn);
  durable = λ clean. tt;
}

-- ---- why it is not written

or_shut : {X : Type 0} (b : Bool) → (b ≡ true → X) → (b ≡ false) ⊎ X
or_shut true f = inr (f refl)
or_shut false f = inl refl

module _ {S : Type 0} (g : store.Ghosts S) (w : Writing) (before : Holdings) (held end : Held S) where
  abbrev Begun : Held S
  Begun = record held { in_transaction = true }

  -- its statements stop
  pub stopped_writing : (e : Error) (fault : PublishFault) → (e ≡ SqliteFailure OutOfMemory → fault ≡ StoreMemory) → fault ≡ Store
      → (IsTrue (state g held).is_open → StopsWithin g (writing_statements w before) Begun end e) → FailsToWrite g w before held end
  stopped_writing e fault memory is stops = inl (or_shut (state g held).is_open (λ up. elim (stops up) [
    | inl refused ↦ absurd (let m = memory refused in cc)
    | inr stopped ↦ stopped
  ]))

  -- or they were run, and the tables do not say it
  pub unconfirmed_writing : (c : Candidate) (history : List Entry) → FollowsHistory c before.history (holdings history w.shapes.items)
      → (live : List (List ℕ)) → IsPrepared c before.history (record { live = live; writing = w })
      → (IsTrue (state g held).is_open → (reached : Held S) × Ran g (writing_statements w before) Begun reached
      × ((state g held).faults ≤ (state g reached).faults) × (found : Found) × AreThere reached.schema found
      × IsUnsaid found (state g reached) (state g end) history w.shapes.items) → FailsToWrite g w before held end
  unconfirmed_writing c history follows live made unsaid = elim (or_shut (state g held).is_open unsaid) [
    | inl shut ↦ inl (inl shut)
    | inr it ↦ inr (record {
      candidate = c;
      live = live;
      made = made;
      history = history;
      follows = follows;
      unsaid = record { reached = it.0; ran = it.1; counts = it.2; found = it.3; there = it.4; unsaid = it.5 };
    })
  ]

-- what is written are the statements of the release
pub statements_are : (w : Writing) (last : ℕ) (h : List Entry) (kept : List Shape) → last ≡ last_year h
    → release_statements (pos w.year) (pos last) w.change.dropped_ids w.fresh.items w.change.rows (text_edits kept w.shapes.items) ≡ writing_statements w (holdings h kept)
statements_are w last h kept is = ap (λ l. release_statements (pos w.year) (pos l) w.change.dropped_ids w.fresh.items w.change.rows (text_edits kept w.shapes.items)) is
