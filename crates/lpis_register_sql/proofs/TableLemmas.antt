-- Statements that write rows of one table: they make and drop none, in any schema.
use Rattle.std.proofs.Common.{◌≡◌, refl, ◌∙◌, ap, subst, [], ◌∷◌, ◌++◌, List, ℕ, ℤ, true, false, Bool, None, Some, Ok, Err, Option, Result, inl, inr, ◌⊎◌, map, slice_get, IsTrue, OnOk}
use Rattle.std.proofs.lemmas.Bool.{cases_Bool}
use Rattle.std.specs.Bool.{⊤}
use Rattle.std.specs.List.{AllByRecursion}
use Rattle.sqlite.specs.Does.{AtPlace, Concludes, Does, OnRows, Tally}
use Rattle.sqlite.specs.Effect.{Database, IsDatabase}
use Rattle.sqlite.specs.Held.{Held, state}
use Rattle.sqlite.specs.Listing.{if_select, is_select, reads_listing}
unfoldable use Rattle.sqlite.specs.Listing.{listing_schema, understood}
use Rattle.sqlite.specs.Order.{Row}
use Rattle.sqlite.specs.Rows.{Part, Task, Written}
use Rattle.sqlite.specs.State.{ExecutesInside, HasCleanDisk, Runs, RunsAlone, State, mode_of, shows_rows}
unfoldable use Rattle.sqlite.specs.State.{ExecutesIn}
use Rattle.sqlite.specs.declared.error.Error.{Error}
use Rattle.sqlite.specs.Tree.{Trees}
use Rattle.sqlite.specs.declared.run.Mode.{Mode}
use Rattle.sqlite_ast.specs.declared.Conflict.TheVariants as conflict
use Rattle.sqlite_ast.specs.declared.Statement.{Statement}
use Rattle.sqlite_ast.specs.declared.Statement.TheVariants as written
use Rattle.sqlite_resolve.specs.Compile.{command_by, returning_by, with_command}
unfoldable use Rattle.sqlite_resolve.specs.Compile.{command as command_for, compiled, delete, first, insert, insert_or_abort, meaning, planned, returning, shows, timed, update}
use Rattle.sqlite_resolve.specs.Lowering.{Checked, and_then}
use Rattle.sqlite_resolve.specs.declared.compiled.Compiled.{Compiled}
use Rattle.sqlite_resolve.specs.declared.error.CompileError.{CompileError}
use Rattle.sqlite_resolve.specs.declared.error.CompileError.TheVariants.{NoSuchTable}
use Rattle.sqlite_schema.specs.declared.command.Command.{Command}
use Rattle.sqlite_schema.specs.declared.command.Command.TheVariants as command
use Rattle.sqlite_schema.specs.declared.command.Returning.{Returning}
use Rattle.sqlite_schema.specs.declared.schema.Schema.{Schema}
use Rattle.sqlite_schema.specs.declared.schema.Table.{Table}
use Rattle.sqlite_syntax.specs.declared.statement.Parsed.{Parsed}
use Rattle.sqlite_tied.specs.Compute.{everything}
use Rattle.sqlite_trees.specs.declared.store.Store as store
use Rattle.lpis_lineage.specs.declared.row.Row.{Row as LineageRow}
use Rattle.lpis_register_rows.specs.Content.{Deletes, Inserts, Replaces, TextEdit, lines_from, marks_from}
use Rattle.lpis_register_sql.specs.Statements.{delete_text, end_span, insert_line, insert_mark, insert_release, insert_span, insert_text, replace_text}
use Rattle.lpis_register_sql.specs.Stopping.{BoundStatement, Ran, edit_statement, ending_statement, line_statement, mark_statement}
use Rattle.lpis_register_sql.specs.Stopping.{release_statements, row_statements, span_statement, span_statements, year_statement}
use Rattle.lpis_register_sql.specs.Within.{KeepsTables, Makes}

-- the command writes rows of one table
abbrev pub IsRowCommand : Command → Type 0
IsRowCommand (command.Insert at from) = ⊤
IsRowCommand (command.Update at query) = ⊤
IsRowCommand (command.Delete at query) = ⊤
IsRowCommand _ = ⊥

-- and its statement shows none
pub record WritesRows (c : Compiled) : Type 0 where
  pub rows : IsRowCommand c.command
  pub shows_none : c.returning ≡ None

-- what holds of the answer of a step, where it does not fail
pub record Gives {A : Type 0} (P : A → Type 0) (r : Checked A) : Type 0 where
  pub gives : (a : A) → r ≡ Ok a → P a

module _ {A : Type 0} (P : A → Type 0) where
  pub done : (a : A) → P a → Gives P (Ok a)
  done a h = record { gives = λ b is. subst P (let same : a ≡ b = cc in same) h }

  pub fails : (e : CompileError) → Gives P (Err e)
  fails e = record { gives = λ b is. absurd cc }

  -- it holds of what comes of a step, if it holds of what the rest makes of each answer
  pub and_gives : {B : Type 0} (r : Checked B) (f : B → Checked A) → ((b : B) → Gives P (f b)) → Gives P (and_then r f)
  and_gives (Ok b) f h = h b
  and_gives (Err e) f h = fails e

-- ---- statements that write

-- INSERT with no clause, UPDATE or DELETE, with no RETURNING
abbrev is_writing : Statement → Bool
is_writing (written.Insert conflict.Abort name columns rows [] []) = true
is_writing (written.Update name sets test []) = true
is_writing (written.Delete name test []) = true
is_writing _ = false

module _ (s : Schema) where
  abbrev W : Command → Type 0
  W = IsRowCommand

  writes_alone : (formats : List (List ℕ)) (base : ℕ) (x : Statement) → is_writing x ≡ true → Gives W (command_by s formats base x)
  unfolding insert_or_abort insert update delete
  writes_alone formats base (written.Insert conflict.Abort name columns rows [] []) is = search (and_gives W, done W) depth 9
  writes_alone formats base (written.Update name sets test []) is = search (and_gives W, done W) depth 9
  writes_alone formats base (written.Delete name test []) is = search (and_gives W, done W) depth 9
  writes_alone formats base _ is = absurd cc

shows_none : (s : Schema) (base : ℕ) (x : Statement) → is_writing x ≡ true → returning_by s base x ≡ Ok None
unfolding shows
shows_none s base (written.Insert conflict.Abort name columns rows [] []) is = refl
shows_none s base (written.Update name sets test []) is = refl
shows_none s base (written.Delete name test []) is = refl
shows_none s base _ is = absurd cc

-- ---- texts

-- a text of such a statement
record IsWrittenText (sql : List ℕ) : Type 0 where
  parsed : Parsed
  is : first sql ≡ Ok parsed
  writes : is_writing parsed.statement ≡ true

-- what a command becomes
plan_writes : (p : Parsed) (formats : List (List ℕ)) (r : Checked Command) → Gives IsRowCommand r
    → Gives WritesRows (and_then {A = List (List ℕ) × (Command × Option Returning)} (and_then {A = Command × Option Returning} (and_then r (λ k. Ok (k, None))) (λ found. Ok (formats, found)))
    (λ plan. Ok (with_command p plan)))
plan_writes p formats (Ok k) h = done WritesRows _ (record { rows = h.gives k refl; shows_none = refl })
plan_writes p formats (Err e) h = fails WritesRows e

compiled_writes : (s : Schema) (sql : List ℕ) → IsWrittenText sql → Gives WritesRows (compiled s sql)
unfolding compiled planned meaning returning command_for
compiled_writes s sql text =
    let p = text.parsed in
    rw (text.is, shows_none s _ p.statement text.writes) (plan_writes p _ _ (writes_alone s p.formats _ p.statement text.writes))

selected : (r : Checked Compiled) (c : Compiled) → if_select r ≡ Ok c → (r ≡ Ok c) × (is_select c.command ≡ true)
selected (Ok x) c known = elim (cases_Bool (is_select x.command)) [
  | inl is ↦ (let same : x ≡ c = (let e : Ok x ≡ Ok c = rw is at known in cc) in (ap (λ (c : Compiled). Ok c) same, rw (← same) is))
  | inr other ↦ absurd (let e : Err NoSuchTable ≡ Ok c = rw other at known in cc)
]
selected (Err e) c known = absurd cc

-- what is understood is compiled over this schema, or is a SELECT
pub own_or_select : (s : Schema) (sql : List ℕ) (c : Compiled) → understood s sql ≡ Ok c
    → (compiled s sql ≡ Ok c) ⊎ ((compiled listing_schema sql ≡ Ok c) × (is_select c.command ≡ true))
unfolding understood
own_or_select s sql c known = elim (cases_Bool (reads_listing s sql)) [
  | inl lists ↦ inr (selected (compiled listing_schema sql) c (rw lists at known))
  | inr own ↦ inl (rw own at known)
]

select_writes : (k : Command) → is_select k ≡ true → IsRowCommand k → ⊥
select_writes (command.Select q names) is h = h
select_writes _ is h = cc

-- wherever the text is understood, it writes rows
abbrev pub IsRowText : Schema → List ℕ → Type 0
IsRowText s sql = (c : Compiled) → understood s sql ≡ Ok c → WritesRows c

-- such a text does
writes_where : (s : Schema) (sql : List ℕ) → IsWrittenText sql → IsRowText s sql
writes_where s sql text c known = elim (own_or_select s sql c known) [
  | inl own ↦ (compiled_writes s sql text).gives c own
  | inr it ↦ absurd (select_writes c.command it.1 ((compiled_writes listing_schema sql text).gives c it.0).rows)
]

module _ (s : Schema) (sql : List ℕ) (p : Parsed) where
  pub writing : first sql ≡ Ok p → is_writing p.statement ≡ true → IsRowText s sql
  writing is writes = writes_where s sql (record { parsed = p; is = is; writes = writes })

-- ---- the statements of a release

-- a statement that writes rows of one table, in any schema
abbrev pub IsRowStatement : BoundStatement → Type 0
IsRowStatement x = (s : Schema) → IsRowText s x.sql

all_of : {Y : Type 0} (f : Y → BoundStatement) → ((y : Y) → IsRowStatement (f y)) → (ys : List Y) → AllByRecursion IsRowStatement (map f ys)
all_of f each [] = tt
all_of f each (y ∷ ys) = (each y, all_of f each ys)

all_and : (xs ys : List BoundStatement) → AllByRecursion IsRowStatement xs → AllByRecursion IsRowStatement ys → AllByRecursion IsRowStatement (xs ++ ys)
all_and [] ys p q = q
all_and (x ∷ xs) ys p q = (p.0, all_and xs ys p.1 q)

module _ (s : Schema) where
  year_text : IsRowText s insert_release
  unfolding everything
  year_text = writing s insert_release _ refl refl

  span_text : IsRowText s insert_span
  unfolding everything
  span_text = writing s insert_span _ refl refl

  line_text : IsRowText s insert_line
  unfolding everything
  line_text = writing s insert_line _ refl refl

  ending_text : IsRowText s end_span
  unfolding everything
  ending_text = writing s end_span _ refl refl

  mark_text : IsRowText s insert_mark
  unfolding everything
  mark_text = writing s insert_mark _ refl refl

  edit_text : (e : TextEdit) → IsRowText s (edit_statement e).sql
  unfolding everything
  edit_text (Deletes id) = writing s delete_text _ refl refl
  edit_text (Replaces t) = writing s replace_text _ refl refl
  edit_text (Inserts t) = writing s insert_text _ refl refl

release_rows : (year last : ℤ) (dropped fresh : List (List ℕ)) (rows : List LineageRow) (edits : List TextEdit) → AllByRecursion IsRowStatement (release_statements year last dropped fresh rows edits)
release_rows year last dropped fresh rows edits =
    let lines = map line_statement (lines_from year 0 rows) in
    let marks = map mark_statement (marks_from year 0 rows) in
    let ended = map (ending_statement last) dropped in
    let begun = map (span_statement year) fresh in
    let spans : AllByRecursion IsRowStatement (span_statements year last dropped fresh) = (
      year_text,
      all_and ended begun (all_of (ending_statement last) (λ id. ending_text) dropped)
          (all_of (span_statement year) (λ id. span_text) fresh),
    ) in
    all_and (span_statements year last dropped fresh) (row_statements year rows edits) spans
    (all_and lines (marks ++ map edit_statement edits) (all_of line_statement (λ l. line_text) (lines_from year 0 rows))
    (all_and marks (map edit_statement edits) (all_of mark_statement (λ m. mark_text) (marks_from year 0 rows)) (all_of edit_statement (λ e s. edit_text s e) edits)))

-- ---- they leave the schema as it is

abbrev schema_in : Schema → Result (Tally × Database) (Option Error) → Schema
schema_in s (Ok x) = x.1.schema
schema_in s (Err e) = s

concluded : (task : Task) (mode : Mode) (shown : Option Returning) (w : Written) (tally : Tally) (after : Database) → Concludes task mode shown w (Ok (tally, after)) → after.schema ≡ task.schema
concluded task mode shown w tally after (inl stopped) = absurd (let clash = stopped.2 in cc)
concluded task mode shown w tally after (inr (in_doubt, tested, inl stopped)) = absurd (let clash = stopped.2 in cc)
concluded task mode shown w tally after (inr (in_doubt, tested, inr (rows, returned, gives))) = ap (schema_in task.schema) gives

rows_keep : (task : Task) (mode : Mode) (shown : Option Returning) (k : Command) (db : Trees) (tally : Tally) (after : Database)
    → OnRows task mode shown k db (Ok (tally, after)) → after.schema ≡ task.schema
rows_keep task mode shown k db tally after (inl stopped) = absurd (let clash = stopped.2 in cc)
rows_keep task mode shown k db tally after (inr (w, wrote, ends)) = concluded task mode shown w tally after ends

on_place : (o : Option Table) (P : Table → Part (Tally × Database)) (x : Tally × Database) → AtPlace P o (Ok x) → (t : Table) × P t (Ok x)
on_place None P x h = absurd cc
on_place (Some t) P x h = (t, h)

module _ (limit : Option ℕ) (mode : Mode) (params : Row) (db : Database) (text : List ℕ) (shown : Option Returning) (tally : Tally) (after : Database) where
  abbrev task_of : Table → Task
  task_of table = record { limit = limit; keys = mode.keys; schema = db.schema; table = table; params = params }

  does_keep : (k : Command) → IsRowCommand k → Does limit mode params db text shown k (Ok (tally, after)) → after.schema ≡ db.schema
  does_keep (command.Insert at from) is h =
      let placed = on_place (slice_get db.schema.tables at) (λ table. OnRows (task_of table) mode shown (command.Insert at from) db.trees) (tally, after) h in
      rows_keep (task_of placed.0) mode shown (command.Insert at from) db.trees tally after placed.1
  does_keep (command.Update at query) is h =
      let placed = on_place (slice_get db.schema.tables at) (λ table. OnRows (task_of table) mode shown (command.Update at query) db.trees) (tally, after) h in
      rows_keep (task_of placed.0) mode shown (command.Update at query) db.trees tally after placed.1
  does_keep (command.Delete at query) is h =
      let placed = on_place (slice_get db.schema.tables at) (λ table. OnRows (task_of table) mode shown (command.Delete at query) db.trees) (tally, after) h in
      rows_keep (task_of placed.0) mode shown (command.Delete at query) db.trees tally after placed.1
  does_keep _ is h = absurd is

-- the database of b is sound, and has the schema of a
abbrev pub Keeps : State → State → Type 0
Keeps a b = (b.now.schema ≡ a.now.schema) × IsDatabase b.now

module _ (a b : State) where
  runs_keep : (shown : Option Returning) (k : Command) (text : List ℕ) (params : Row) (count : ℕ) → IsRowCommand k → Runs a b shown k text params count → Keeps a b
  runs_keep shown (command.Insert at from) text params count is h = (does_keep a.step_limit (mode_of a) params a.now text shown h.tally b.now (command.Insert at from) is h.changed, h.sound)
  runs_keep shown (command.Update at query) text params count is h = (does_keep a.step_limit (mode_of a) params a.now text shown h.tally b.now (command.Update at query) is h.changed, h.sound)
  runs_keep shown (command.Delete at query) text params count is h = (does_keep a.step_limit (mode_of a) params a.now text shown h.tally b.now (command.Delete at query) is h.changed, h.sound)
  runs_keep shown _ text params count is h = absurd is

  alone_keeps : (sql : List ℕ) (c : Compiled) (params : Row) (count : ℕ) → WritesRows c → RunsAlone false a b sql c params (Ok count) → Keeps a b
  alone_keeps sql c params count writes h = elim (cases_Bool (shows_rows false c)) [
    | inl shows ↦ absurd (let e = (rw shows at h).0 in cc)
    | inr runs ↦ runs_keep c.returning c.command _ params count writes.rows (rw runs at h)
  ]

  pub executed_keeps : (sql : List ℕ) (values : Row) (count : ℕ) → IsRowText a.now.schema sql → ExecutesInside 0 sql values a b (Ok count) → Keeps a b
  unfolding ExecutesIn
  executed_keeps sql values count text h = let run = h.0 in alone_keeps sql run.0 _ count (text run.0 run.1.is) run.2

module _ {S : Type 0} (g : store.Ghosts S) where
  ran_keeps : (x : BoundStatement) (xs : List BoundStatement) → AllByRecursion IsRowStatement (x ∷ xs) → (a b : Held S) → Ran g (x ∷ xs) a b → Keeps (state g a) (state g b)
  ran_keeps x [] all a b (mid, count, ran, same, more) =
      subst (λ h. Keeps (state g a) (state g h)) more (executed_keeps (state g a) (state g mid) x.sql x.values count (all.0 a.schema) ran)
  ran_keeps x (y ∷ xs) all a b (mid, count, ran, same, more) =
      let later = ran_keeps y xs all.1 mid b more in
      (later.0 ∙ (executed_keeps (state g a) (state g mid) x.sql x.values count (all.0 a.schema) ran).0, later.1)

  -- where a release is written no table is made or dropped
  pub made_keeps_tables : (year last : ℤ) (dropped fresh : List (List ℕ)) (rows : List LineageRow) (edits : List TextEdit) (a b : Held S) (r : Result (Unit {0}) Error)
      → Makes g (release_statements year last dropped fresh rows edits) a b r → HasCleanDisk (state g b) → IsTrue (state g a).is_open → IsTrue a.in_transaction
      → OnOk r (KeepsTables (state g a) (state g b))
  made_keeps_tables year last dropped fresh rows edits a b (Err e) made clean up within = tt
  made_keeps_tables year last dropped fresh rows edits a b (Ok x) made clean up within =
      let kept = ran_keeps (year_statement year) _ (release_rows year last dropped fresh rows edits) a b (made.ends clean up within) in record { schema = kept.0; sound = kept.1 }
