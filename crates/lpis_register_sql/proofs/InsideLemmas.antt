-- Reading tables inside a transaction, one after the other.
use Rattle.std.proofs.Common.{◌≡◌, ◌≢◌, ◌⊎◌, ◌++◌, ◌∷◌, ◌∙◌, [], inl, inr, List, Ok, Err, Result, IfOk, IfErr, IsTrue}
use Rattle.std.proofs.Common.{IsErrAnd, OnOk, Vec, Global, arith, length, map, refl, subst, sym, take}
use Rattle.std.proofs.lemmas.List.{append_assoc}
use Rattle.sqlite_value.specs.Order.{Row}
use Rattle.sqlite.specs.Effect.{Database, Reads, ReadsFirst}
use Rattle.sqlite.specs.Clock.{timed}
use Rattle.sqlite.specs.State.{State, HasCleanDisk, Survives, Begins, FailsToQuery, IsRolledBack, IsTooLate, IsUnchanged, KeepsCommit, Shown, ShowsRows}
use Rattle.sqlite.specs.declared.error.Error.{Error}
use Rattle.sqlite.specs.declared.error.Error.TheVariants.{SqliteFailure}
use Rattle.sqlite.specs.declared.error.ErrorCode.TheVariants as code
use Rattle.sqlite.proofs.Callers.{unchanged_then}
use Rattle.sqlite_schema.specs.declared.command.Command.{Command}
use Rattle.sqlite_schema.specs.declared.command.Command.TheVariants.{Select, Rows}
use Rattle.sqlite_schema.specs.Program.{lets_of}
use Rattle.sqlite_sql.proofs.ProgramLemmas.{computes_weaker}
use Rattle.lpis_register_sql.specs.Showing.{Shows, ShowsTable}
use Rattle.lpis_register_sql.specs.StoredTables.{ColumnKind, HasColumns, StoredTable, is_read, kinds_of, query_of}
use Rattle.lpis_register_sql.specs.Unread.{IsUnread, Tells}
use Rattle.lpis_register_sql.specs.Within.{IsQuiet}
use Rattle.lpis_register_sql.specs.declared.found.Found.{Found}
use Rattle.lpis_register_sql.proofs.AnsweringLemmas.{answered_by, plain_where}
use Rattle.lpis_register_sql.proofs.ReadingLemmas.{fails_same}
use Rattle.lpis_register_sql.proofs.SeeingLemmas.{Seen, none_seen, see}
use Rattle.lpis_register_sql.proofs.StepLemmas.{quiet_none, quiet_on}
use Rattle.lpis_register_sql.proofs.StopLemmas.{unchanged}
use Rattle.lpis_register_sql.proofs.UnreadLemmas.{memory?, query_stops, told_err_rows, told_of, told_ok_rows, unread_before, unread_still}

-- what changes nothing, or undoes the transaction, commits nothing
keeps_of : (a b : State) → IsUnchanged a b ⊎ IsRolledBack a b → KeepsCommit a b
keeps_of a b (inl same) = record { was_open = λ up. same.0.was_open; committed = λ up. same.0.committed_is }
keeps_of a b (inr back) = record { was_open = back.was_open; committed = λ up. (back.undone up).1 }

-- ---- the query of a table

module _ (t : StoredTable) (a b : State) where
  -- it commits nothing
  pub asked_quiet : (r : Result (Vec Row Global) Error) → (HasCleanDisk b → IfOk r (λ rows. Shown (query_of t) [] a b rows.items))
      → (HasCleanDisk b → IfErr r (λ e. FailsToQuery (query_of t) [] a b e ⊎ IsTooLate (query_of t) [] a b e)) → Survives a b (λ _. ⊥) → IsQuiet a b
  asked_quiet (Ok rows) ok err survives = record { kept = λ clean. keeps_of a b (inl (answered_by t a b rows.items (ok clean)).1); survives = survives }
  asked_quiet (Err e) ok err survives = record {
    kept = λ clean. keeps_of a b (elim (err clean) [
      | inl fails ↦ fails_same (query_of t) [] a b e (plain_where t a.now.schema) fails
      | inr late ↦ inl late.5
    ]);
    survives = survives;
  }

-- rows that are an answer begin it
front_read : (command : Command) (db : Database) (params : Row) (rows tail : List Row) → Reads command db params (rows ++ tail) → ReadsFirst command db params rows
front_read (Select q names) db params rows tail h = (h.typed, computes_weaker db.trees params (lets_of q) [] _ _ (λ all sure. (tail, sure)) h.answer)
front_read (Rows values width names) db params rows tail h = (tail, h)
front_read _ db params rows tail h = absurd h

-- so do rows that a query showed
begun_by : (t : StoredTable) (a b : State) (rows front tail : List Row) → rows ≡ front ++ tail → Shown (query_of t) [] a b rows → Begins (query_of t) [] a front
unfolding Shown Begins
begun_by t a b rows front tail are h =
    let c = h.0 in
    let none = (plain_where t a.now.schema c h.1.is).0 in
    let got = subst (ShowsRows a b (query_of t) c (timed [] c.formats h.1.now) rows) none h.2 in
    (c, h.1, none, got.0, got.1, front_read c.command got.0 (timed [] c.formats h.1.now) front tail (subst (Reads c.command got.0 (timed [] c.formats h.1.now)) are got.2))

-- a row that is not read
pub item_misfit : {X : Type 0} (kinds : List ColumnKind) (rows before after : List Row) (row : Row) (e : Error) (r : Result X Error) → IsErrAnd r (λ x. x ≡ e) → rows ≡ before ++ row ∷ after
    → (e ≢ SqliteFailure code.OutOfMemory → ¬ HasColumns kinds row)
    → IfErr r (λ x. x ≢ SqliteFailure code.OutOfMemory → (before : List Row) × (row : Row) × (after : List Row) × (rows ≡ before ++ row ∷ after) × ¬ HasColumns kinds row)
item_misfit kinds rows before after row e (Ok x) is are never = absurd is
item_misfit kinds rows before after row e (Err x) is are never = λ other. (before, row, after, are, never (λ memory. other (is ∙ memory)))

module _ (found : Found) (t : StoredTable) (read : IsTrue (is_read found t)) (a b : State) where
  never_late : (e : Error) → IsTooLate (query_of t) [] a b e → ⊥
  never_late e (c, it, some, off, is, same) = let none = (plain_where t a.now.schema c it.is).0 in absurd (let clash = rw none at some in cc)

  -- it is not answered
  pub asked_not : {X : Type 0} (e : Error) (r : Result X Error) → IsErrAnd r (λ x. x ≡ e) → (HasCleanDisk b → FailsToQuery (query_of t) [] a b e ⊎ IsTooLate (query_of t) [] a b e) → Tells found a b r
  asked_not e r is fails = told_of found t a b r read (told_err_rows (query_of t) (kinds_of t) a b e r is (λ clean up plain. elim (fails clean) [
    | inl refused ↦ query_stops (query_of t) (kinds_of t) a b e up plain refused
    | inr late ↦ absurd (never_late e late)
  ]))

  -- it is, and its rows are read
  pub items_told : {X : Type 0} (rows : List Row) (r : Result (Vec X Global) Error) → (HasCleanDisk b → Shown (query_of t) [] a b rows)
      → IfErr r (λ e. e ≢ SqliteFailure code.OutOfMemory → (before : List Row) × (row : Row) × (after : List Row) × (rows ≡ before ++ row ∷ after) × ¬ HasColumns (kinds_of t) row)
      → Tells found a b r
  items_told {X} rows (Ok all) shown misfit = told_of {X = Vec X Global} found t a b (Ok all) read
      (told_ok_rows (query_of t) (kinds_of t) a b all (λ clean plain. (answered_by t a b rows (shown clean)).1))
  items_told {X} rows (Err e) shown misfit = told_of {X = Vec X Global} found t a b (Err e) read
      (told_err_rows {X = Vec X Global} (query_of t) (kinds_of t) a b e (Err e) refl (λ clean up plain. elim (memory? e) [
        | inl memory ↦ inl memory
        | inr never ↦
            let m = misfit never in
            let front = m.0 ++ m.1 ∷ [] in
            inr (inr (inr (inr (m.0, m.1, begun_by t a b rows front m.2 (m.3 ∙ sym (append_assoc m.0 (m.1 ∷ []) m.2)) (shown clean), m.4))))
      ]))

  -- they are what its query shows
  pub items_shown : {X : Type 0} (columns : X → Row) (rows : List Row) (r : Result (Vec X Global) Error) → (HasCleanDisk b → Shown (query_of t) [] a b rows)
      → IfOk r (λ all. map (take (length (kinds_of t))) rows ≡ map columns all.items) → Shows (λ db all. ShowsTable db t columns all.items) a b r
  items_shown columns rows (Err e) shown are = record { ok = λ clean. tt }
  items_shown columns rows (Ok all) shown are = record {
    ok = λ clean. let it = answered_by t a b rows (shown clean) in (record { rows = rows; answers = it.0; are = are }, (it.1.0.now_is, λ up. it.1));
  }

-- ---- tables in turn

-- what the calls so far have read
pub record Read (found : Found) (Says : Database → Type 0) (a b : State) : Type 0 where
  pub quiet : IsQuiet a b
  pub heard : HasCleanDisk b → IsTrue a.is_open → IsUnchanged a b ⊎ IsUnread found a b
  pub seen : Seen Says a b

-- before the first
pub none_read : {found : Found} {a : State} → Read found (λ db. Unit {0}) a a
none_read {a = a} = record { quiet = quiet_none a; heard = λ clean up. inl (unchanged a up); seen = none_seen }

module _ {found : Found} {Says : Database → Type 0} {a b c : State} (before : Read found Says a b) (quiet : IsQuiet b c) where
  on : (Cause : Type 0) → (HasCleanDisk c → IsTrue b.is_open → (IsUnchanged a b → Cause) ⊎ IsUnread found b c) → HasCleanDisk c → IsTrue a.is_open → Cause ⊎ IsUnread found a c
  on Cause more clean up = elim (before.heard (omega (arith, clean, quiet.survives.clean)) up) [
    | inr unread ↦ inr (unread_still found a b c quiet.survives.counts unread)
    | inl same ↦ elim (more clean same.0.is_open) [
      | inl cause ↦ inl (cause same)
      | inr unread ↦ inr (unread_before found a b c same before.quiet.survives.limit before.quiet.survives.counts unread)
    ]
  ]

  -- one table more
  pub read_more : {X : Type 0} {More : Database → X → Type 0} {x : X} → (HasCleanDisk c → IsTrue b.is_open → IsUnchanged b c ⊎ IsUnread found b c)
      → Shows {E = Error} More b c (Ok x) → Read found (λ db. Says db × More db x) a c
  read_more tells shows = record {
    quiet = quiet_on a b c before.quiet quiet;
    heard = on (IsUnchanged a c) (λ clean up. elim (tells clean up) [ inl still ↦ inl (λ same. unchanged_then a b c same still) | inr unread ↦ inr unread ]);
    seen = see before.seen (λ clean. omega (arith, clean, quiet.survives.clean)) shows;
  }

  -- the last of them, which is not read
  pub read_fails : {Y : Type 0} (e : Error) (r : Result Y Error) → IsErrAnd r (λ x. x ≡ e)
      → (HasCleanDisk c → IsTrue b.is_open → (e ≡ SqliteFailure code.OutOfMemory) ⊎ IsUnread found b c) → Tells found a c r
  read_fails e (Ok y) is tells = absurd is
  read_fails e (Err x) is tells = λ clean up. subst (λ i. (i ≡ SqliteFailure code.OutOfMemory) ⊎ IsUnread found a c) (sym is)
      (on (e ≡ SqliteFailure code.OutOfMemory) (λ clean up. elim (tells clean up) [ inl memory ↦ inl (λ same. memory) | inr unread ↦ inr unread ]) clean up)

-- ---- one table, where it was found

-- what was asked of an open connection
pub asked_open : {X : Type 0} (t : StoredTable) (a b : State) (rows : List Row) (r : Result X Error) → (HasCleanDisk b → Shown (query_of t) [] a b rows) → HasCleanDisk b → OnOk r (IsTrue a.is_open)
asked_open t a b rows (Ok x) shown clean = (answered_by t a b rows (shown clean)).1.0.was_open
asked_open t a b rows (Err e) shown clean = tt
