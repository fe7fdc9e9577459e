-- Why reading a table stops.
use Rattle.std.proofs.Common.{◌≡◌, ◌≢◌, ◌⊎◌, ◌++◌, ◌∷◌, ◌<◌, ◌∙◌, [], ℕ, zero, suc, List, length, slice_get, None, Some, Option, Ok, Err, Result, IfErr}
use Rattle.std.proofs.Common.{IsTrue, inl, inr, refl, sym, subst, arith}
use Rattle.sqlite_value.specs.Order.{Row, column}
use Rattle.sqlite_disk.specs.Disk.{MoreFaults}
use Rattle.sqlite_resolve.specs.declared.compiled.Compiled.{Compiled}
use Rattle.sqlite_resolve.specs.declared.error.CompileError.{CompileError}
use Rattle.sqlite.specs.Clock.{timed}
use Rattle.sqlite.specs.Effect.{Database, RefusesToRead}
use Rattle.sqlite.specs.Listing.{understood, reads_listing, IsSourceOf}
use Rattle.sqlite.specs.State.{Begins, FailsToQuery, FailsToShow, IsNotRun, IsNoStatement, IsStatement, IsUnchanged, ShowsRows, Shown, State, HasCleanDisk}
use Rattle.sqlite.specs.declared.error.Error.{Error}
use Rattle.sqlite.specs.declared.error.Error.TheVariants.{SqliteFailure}
use Rattle.sqlite.specs.declared.error.ErrorCode.TheVariants as code
use Rattle.std.proofs.Common.{◌≤◌, IsErrAnd}
use Rattle.sqlite.proofs.Callers.{IsPlain, unchanged_then}
use Rattle.lpis_register_sql.specs.declared.found.Found.{Found}
use Rattle.lpis_register_sql.specs.StoredTables.{HasColumns, IsOfKind, ColumnKind, StoredTable, is_read, kinds_of, query_of}
use Rattle.lpis_register_sql.specs.Unread.{IsRefusedQuery, IsUnanswered, IsUnread, Tells}
use Rattle.lpis_register_sql.specs.private.Telling.{IsPlainWhere, TellsRows}
use Rattle.lpis_register_sql.specs.Quiet.{LeavesAll}
use Rattle.lpis_register_sql.proofs.QuietLemmas.{Told, nothing_yet, then, then_fails}
use Rattle.lpis_register_sql.proofs.StopLemmas.{failing, faults_kept, more_faults, unchanged}

-- ---- what is decided

-- whether memory ran out
pub memory? : (e : Error) → (e ≡ SqliteFailure code.OutOfMemory) ⊎ (e ≢ SqliteFailure code.OutOfMemory)
memory? (SqliteFailure code.OutOfMemory) = inl refl
memory? e = inr (λ is. absurd cc)

none? : {A : Type 0} (o : Option A) → (o ≡ None) ⊎ (o ≢ None)
none? None = inl refl
none? (Some x) = inr (λ is. absurd cc)

empty? : {A : Type 0} (l : List A) → (l ≡ []) ⊎ (l ≢ [])
empty? [] = inl refl
empty? (x ∷ l) = inr (λ is. absurd cc)

-- whether a query is a plain one
pub plain? : (r : Result Compiled CompileError) → IsPlain r ⊎ ¬ IsPlain r
plain? (Ok c) = elim (none? c.returning) [
  | inl none ↦ elim (empty? c.formats) [ inl free ↦ inl (none, free) | inr timed ↦ inr (λ p. timed p.1) ]
  | inr some ↦ inr (λ p. some p.0)
]
plain? (Err e) = inr (λ p. p)

-- ---- a state that is the same answers the same

module _ (sql : List ℕ) (old mid : State) (same : IsUnchanged old mid) where
  statement_before : (c : Compiled) → IsStatement mid sql [] c → IsStatement old sql [] c
  statement_before c it = record { is = subst (λ (d : Database). understood d.schema sql ≡ Ok c) same.0.now_is it.is; whole = it.whole; given = it.given; now = it.now }

  none_before : (e : Error) → IsNoStatement mid sql [] e → IsNoStatement old sql [] e
  none_before e h = subst (λ (d : Database). IsNoStatement (record mid { now = d }) sql [] e) same.0.now_is h

  source_before : (db : Database) → IsSourceOf (reads_listing mid.now.schema sql) mid.now db → IsSourceOf (reads_listing old.now.schema sql) old.now db
  source_before db h = subst (λ (d : Database). IsSourceOf (reads_listing d.schema sql) d db) same.0.now_is h

  pub plain_now : IsPlain (understood old.now.schema sql) → IsPlain (understood mid.now.schema sql)
  plain_now plain = subst (λ (d : Database). IsPlain (understood d.schema sql)) (sym same.0.now_is) plain

  begun_before : (rows : List Row) → Begins sql [] mid rows → Begins sql [] old rows
  unfolding Begins statement_before
  begun_before rows h = (h.0, statement_before h.0 h.1, h.2, h.3, source_before h.3 h.4, h.5)

  refused_before : mid.step_limit ≡ old.step_limit → IsRefusedQuery mid sql → IsRefusedQuery old sql
  unfolding statement_before
  refused_before limit (e, inl none) = (e, inl (none_before e none))
  refused_before limit (e, inr h) =
      (e, inr (h.0, statement_before h.0 h.1, h.2, source_before h.2 h.3, subst (λ l. RefusesToRead l h.0.command h.2 (timed [] h.0.formats h.1.now) e) limit h.4))

  pub unanswered_before : (kinds : List ColumnKind) → mid.step_limit ≡ old.step_limit → IsUnanswered mid sql kinds → IsUnanswered old sql kinds
  unanswered_before kinds limit (inl strange) = inl (λ plain. strange (plain_now plain))
  unanswered_before kinds limit (inr (inl refused)) = inr (inl (refused_before limit refused))
  unanswered_before kinds limit (inr (inr misfit)) = inr (inr (misfit.0, misfit.1, begun_before _ misfit.2, misfit.3))

-- ---- one query

-- a plain query that fails
pub query_stops : (sql : List ℕ) (kinds : List ColumnKind) (a b : State) (e : Error) → IsTrue a.is_open → IsPlain (understood a.now.schema sql) → FailsToQuery sql [] a b e
    → (e ≡ SqliteFailure code.OutOfMemory) ⊎ (MoreFaults a.faults b.faults ⊎ IsUnanswered a sql kinds)
unfolding FailsToQuery IsNotRun
query_stops sql kinds a b e up plain (inl (inl refused)) = inr (inr (inr (inl (e, inl refused.0))))
query_stops sql kinds a b e up plain (inl (inr failed)) = elim (failing ⊥ a b e up failed) [
  | inl memory ↦ inl memory
  | inr disk ↦ inr (elim disk [ inl more ↦ inl more | inr big ↦ absurd big ])
]
query_stops sql kinds a b e up plain (inr h) =
    let none = (subst IsPlain h.1.is plain).0 in
    let it = subst (FailsToShow a b sql h.0 (timed [] h.0.formats h.1.now) e) none h.2 in
    inr (inr (inr (inl (e, inr (h.0, h.1, it.0, it.1, it.2)))))

-- a cause of a later state is one of the state before, where nothing is changed between
pub stops_before : (sql : List ℕ) (kinds : List ColumnKind) (a b c : State) (e : Error) → IsUnchanged a b → b.step_limit ≡ a.step_limit → a.faults ≤ b.faults
    → (e ≡ SqliteFailure code.OutOfMemory) ⊎ (MoreFaults b.faults c.faults ⊎ IsUnanswered b sql kinds)
    → (e ≡ SqliteFailure code.OutOfMemory) ⊎ (MoreFaults a.faults c.faults ⊎ IsUnanswered a sql kinds)
stops_before sql kinds a b c e same limit low (inl memory) = inl memory
stops_before sql kinds a b c e same limit low (inr (inl more)) = inr (inl (more_faults a.faults b.faults c.faults low more))
stops_before sql kinds a b c e same limit low (inr (inr h)) = inr (inr (unanswered_before sql a b same kinds limit h))

-- a row that is shown and not read
pub misfit_stops : (sql : List ℕ) (kinds : List ColumnKind) (a b : State) (e : Error) (rows : List Row) (row : Row) → IsUnchanged a b → Begins sql [] b (rows ++ row ∷ [])
    → (e ≢ SqliteFailure code.OutOfMemory → ¬ HasColumns kinds row) → (e ≡ SqliteFailure code.OutOfMemory) ⊎ (MoreFaults a.faults b.faults ⊎ IsUnanswered a sql kinds)
misfit_stops sql kinds a b e rows row same begun misfit = elim (memory? e) [
  | inl memory ↦ inl memory
  | inr never ↦ inr (inr (inr (inr (rows, row, begun_before sql a b same (rows ++ row ∷ []) begun, misfit never))))
]

-- what a plain query showed changed nothing
pub shown_same : (sql : List ℕ) (a b : State) (rows : List Row) → IsPlainWhere a.now.schema sql → Shown sql [] a b rows → IsUnchanged a b
unfolding Shown
shown_same sql a b rows plain h =
    let none = (plain h.0 h.1.is).0 in (subst (ShowsRows a b sql h.0 (timed [] h.0.formats h.1.now) rows) none h.2).3

-- a reading that fails, where the query is a plain one
pub told_err_rows : {X : Type 0} (sql : List ℕ) (kinds : List ColumnKind) (a b : State) (e : Error) (r : Result X Error) → IsErrAnd r (λ x. x ≡ e)
    → (HasCleanDisk b → IsTrue a.is_open → IsPlain (understood a.now.schema sql) → (e ≡ SqliteFailure code.OutOfMemory) ⊎ (MoreFaults a.faults b.faults ⊎ IsUnanswered a sql kinds))
    → TellsRows sql kinds a b r
told_err_rows sql kinds a b e (Ok x) is stops = absurd is
told_err_rows sql kinds a b e (Err x) is stops = λ clean up. elim (plain? (understood a.now.schema sql)) [
  | inr strange ↦ inr (inr (inl strange))
  | inl plain ↦ subst (λ i. (i ≡ SqliteFailure code.OutOfMemory) ⊎ (MoreFaults a.faults b.faults ⊎ IsUnanswered a sql kinds)) (sym is) (stops clean up plain)
]

-- and one that answers
pub told_ok_rows : {X : Type 0} (sql : List ℕ) (kinds : List ColumnKind) (a b : State) (x : X)
    → (HasCleanDisk b → IsPlain (understood a.now.schema sql) → IsUnchanged a b) → TellsRows sql kinds a b (Ok x)
told_ok_rows sql kinds a b x still = λ clean up. elim (plain? (understood a.now.schema sql)) [
  | inr strange ↦ inr (inl strange)
  | inl plain ↦ inl (still clean plain)
]

-- ---- the columns of a row

-- a row that has such columns has this one
pub fits_at : (kinds : List ColumnKind) (row : Row) (at : ℕ) (k : ColumnKind) → slice_get kinds at ≡ Some k → HasColumns kinds row → (at < length row) × IsOfKind k (column row at)
fits_at [] row at k is fits = absurd cc
fits_at (x ∷ kinds) [] at k is fits = absurd fits
fits_at (x ∷ kinds) (v ∷ row) zero k is fits = let same : x ≡ k = cc in (omega arith, subst (λ i. IsOfKind i v) same fits.0)
fits_at (x ∷ kinds) (v ∷ row) (suc at) k is fits = let later = fits_at kinds row at k is fits.1 in (omega (arith, later.0), later.1)

-- ---- the tables that were found

-- the query of a table that was found
pub told_of : {X : Type 0} (found : Found) (t : StoredTable) (a b : State) (r : Result X Error) → IsTrue (is_read found t) → TellsRows (query_of t) (kinds_of t) a b r → Tells found a b r
told_of found t a b (Ok x) read told = λ clean up. elim (told clean up) [ inl same ↦ inl same | inr h ↦ inr (inr (t, read, h)) ]
told_of found t a b (Err e) read told = λ clean up. elim (told clean up) [
  | inl memory ↦ inl memory
  | inr h ↦ inr (elim h [ inl more ↦ inl more | inr none ↦ inr (t, read, none) ])
]

-- where nothing is changed before, a later cause is one of the whole
pub unread_before : (found : Found) (a b c : State) → IsUnchanged a b → b.step_limit ≡ a.step_limit → a.faults ≤ b.faults → IsUnread found b c → IsUnread found a c
unread_before found a b c same limit low (inl more) = inl (more_faults a.faults b.faults c.faults low more)
unread_before found a b c same limit low (inr (t, read, h)) = inr (t, read, unanswered_before (query_of t) a b same (kinds_of t) limit h)

-- and no later call takes a cause away
pub unread_still : (found : Found) (a b c : State) → b.faults ≤ c.faults → IsUnread found a b → IsUnread found a c
unread_still found a b c low (inl more) = inl (faults_kept a.faults b.faults c.faults more low)
unread_still found a b c low (inr h) = inr h

-- ---- one call after the other

-- what the calls so far have left, and what they have told
pub record Loaded (found : Found) (a b : State) : Type 0 where
  pub told : Told a b
  pub heard : HasCleanDisk b → IsTrue a.is_open → IsUnchanged a b ⊎ IsUnread found a b
  pub limit : b.step_limit ≡ a.step_limit

-- before the first call
pub none_loaded : {found : Found} {a : State} → Loaded found a a
none_loaded {a = a} = record { told = nothing_yet; heard = λ clean up. inl (unchanged a up); limit = refl }

heard_on : (found : Found) (a b c : State) → Loaded found a b → (Cause : Type 0) → (HasCleanDisk c → HasCleanDisk b) → b.faults ≤ c.faults
    → (HasCleanDisk c → IsTrue b.is_open → (IsUnchanged a b → Cause) ⊎ IsUnread found b c) → HasCleanDisk c → IsTrue a.is_open → Cause ⊎ IsUnread found a c
heard_on found a b c before Cause clean later more now up = elim (before.heard (clean now) up) [
  | inr unread ↦ inr (unread_still found a b c later unread)
  | inl same ↦ elim (more now same.0.is_open) [ inl cause ↦ inl (cause same) | inr unread ↦ inr (unread_before found a b c same before.limit before.told.survives.counts unread) ]
]

module _ {found : Found} {X E : Type 0} {a b c : State} (before : Loaded found a b) where
  -- one call more
  pub load : {x : X} → LeavesAll {E = E} b c (Ok x) → (HasCleanDisk c → IsTrue b.is_open → IsUnchanged b c ⊎ IsUnread found b c) → Loaded found a c
  load reads more = record {
    told = then before.told reads;
    heard = heard_on found a b c before (IsUnchanged a c) (λ now. omega (arith, now, reads.survives.clean)) reads.survives.counts
        (λ clean up. elim (more clean up) [ inl still ↦ inl (λ same. unchanged_then a b c same still) | inr unread ↦ inr unread ]);
    limit = reads.survives.limit ∙ before.limit;
  }

  -- the last of them, which fails
  pub load_fails : {Y : Type 0} {d : E} (e : Error) (r : Result Y Error) → IsErrAnd r (λ x. x ≡ e) → LeavesAll {X = X} b c (Err d)
      → (HasCleanDisk c → IsTrue b.is_open → (e ≡ SqliteFailure code.OutOfMemory) ⊎ IsUnread found b c) → LeavesAll a c r × Tells found a c r
  load_fails e (Ok y) is reads more = absurd is
  load_fails e (Err x) is reads more = (
    then_fails {Why = λ y. y ≡ e} (x, refl, is) before.told reads,
    λ clean up. subst (λ i. (i ≡ SqliteFailure code.OutOfMemory) ⊎ IsUnread found a c) (sym is)
        (heard_on found a b c before (e ≡ SqliteFailure code.OutOfMemory) (λ now. omega (arith, now, reads.survives.clean)) reads.survives.counts
        (λ clean up. elim (more clean up) [ inl memory ↦ inl (λ same. memory) | inr unread ↦ inr unread ]) clean up),
  )

-- ---- a row that is not read

-- one of its columns is not read, and that is handed on
pub misfit : {X : Type 0} (kinds : List ColumnKind) (row : Row) (at : ℕ) (k : ColumnKind) (e : Error) (r : Result X Error) → slice_get kinds at ≡ Some k → IsErrAnd r (λ x. x ≡ e)
    → (e ≢ SqliteFailure code.OutOfMemory → at < length row → ¬ IsOfKind k (column row at)) → IfErr r (λ x. x ≢ SqliteFailure code.OutOfMemory → ¬ HasColumns kinds row)
misfit kinds row at k e (Ok y) is same never = tt
misfit kinds row at k e (Err x) is same never = λ other fits.
    let it = fits_at kinds row at k is fits in
    never (λ memory. other (same ∙ memory)) it.0 it.1

-- its only column is not read
pub misfit_alone : {X : Type 0} (kinds : List ColumnKind) (row : Row) (at : ℕ) (k : ColumnKind) (r : Result X Error) → slice_get kinds at ≡ Some k
    → IfErr r (λ e. e ≢ SqliteFailure code.OutOfMemory → at < length row → ¬ IsOfKind k (column row at)) → IfErr r (λ x. x ≢ SqliteFailure code.OutOfMemory → ¬ HasColumns kinds row)
misfit_alone kinds row at k (Ok y) is never = tt
misfit_alone kinds row at k (Err x) is never = λ other fits. let it = fits_at kinds row at k is fits in never other it.0 it.1
