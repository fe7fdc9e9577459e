-- What the queries of the register's tables are in any schema.
use Rattle.std.proofs.Common.{IsTrue, OnOk, ◌≡◌, ℕ, refl, sym, ◌∙◌, ap, [], List, false, None, Ok, Err, Option, Result, inl, inr, subst, subst₂, map, take, length, IfOk, Vec, Global}
use Rattle.std.proofs.lemmas.Result.{IfOk-weaker}
use Rattle.std.proofs.lemmas.Bool.{cases_Bool}
use Rattle.sqlite.specs.Schema.{Schema}
use Rattle.sqlite.specs.Clock.{timed as with_time}
use Rattle.sqlite.specs.Effect.{Reads}
use Rattle.sqlite.specs.Given.{HasBegun, HasGiven, IsPlain, Returns}
use Rattle.sqlite.specs.Held.{Held}
use Rattle.sqlite.specs.Order.{Row}
use Rattle.sqlite.specs.State.{CommitsShowing, IsUnchanged, Shown, ShowsRows, State}
use Rattle.sqlite.specs.Tree.{Trees}
use Rattle.sqlite_trees.specs.declared.store.Store as store
use Rattle.sqlite_schema.specs.declared.command.Command.{Command}
use Rattle.sqlite_schema.specs.declared.command.Returning.{Returning}
use Rattle.sqlite_resolve.specs.Compile.{with_command}
use Rattle.sqlite_tied.specs.Compute.{everything}
use Rattle.sqlite_ast.specs.declared.Select.{Select}
use Rattle.sqlite_ast.specs.declared.Statement.TheVariants as written
use Rattle.sqlite_syntax.specs.declared.statement.Parsed.{Parsed}
use Rattle.sqlite_resolve.specs.declared.compiled.Compiled.{Compiled}
use Rattle.sqlite_resolve.specs.declared.error.CompileError.{CompileError}
use Rattle.sqlite_resolve.specs.declared.error.CompileError.TheVariants.{NoSuchTable}
use Rattle.sqlite_resolve.specs.Lowering.{and_then}
unfoldable use Rattle.sqlite_resolve.specs.Compile.{compiled, first, planned, meaning, returning, timed, command, read}
use Rattle.sqlite.specs.Listing.{IsSourceOf, if_select, reads_listing}
unfoldable use Rattle.sqlite.specs.Listing.{understood, listing_schema}
use Rattle.lpis_register_sql.proofs.Common.{Error, HasCleanDisk, state}
use Rattle.lpis_register_sql.specs.Showing.{AnswersQuery, Shows, ShowsTable}
use Rattle.lpis_register_sql.specs.StoredTables.{StoredTable, kinds_of, query_of}
use Rattle.lpis_register_sql.specs.private.Telling.{IsPlainWhere}
use Rattle.lpis_register_sql.proofs.NamedLemmas.{each_table}
use Rattle.lpis_register_sql.specs.private.Shown.{read_format, read_line_text, read_live, read_mark, read_release, read_span, read_text}

-- a text that is a SELECT
pub record IsSelect (sql : List ℕ) (s : Select) (p : Parsed) : Type 0 where
  pub parsed : first sql ≡ Ok p
  pub statement : p.statement ≡ written.Select s
  pub timeless : p.formats ≡ []

-- a compiled text that changes nothing and reads no clock
abbrev IsBare : Compiled → Type 0
IsBare c = (c.returning ≡ None) × (c.formats ≡ [])

-- a text compiled to a command that returns nothing
abbrev pub with_plan : Parsed → Command → Compiled
with_plan p k = record { command = k; returning = None; names = p.names; formats = []; start = p.start; end = p.end; tail = p.tail }

-- what it compiles to
pub compiled_select : (s : Schema) (sql : List ℕ) (sel : Select) (p : Parsed) → IsSelect sql sel p → compiled s sql ≡ and_then (read s sel) (λ k. Ok (with_plan p k))
unfolding compiled planned meaning returning timed command
compiled_select s sql sel p is = rw (is.parsed, is.statement, is.timeless) (same (read s sel))
  where
    same : (r : Result Command CompileError)
        → and_then {A = List (List ℕ) × (Command × Option Returning)} (and_then {A = Command × Option Returning} (and_then r (λ k. Ok (k, None))) (λ found. Ok ([], found)))
        (λ plan. Ok (with_command p plan))
        ≡ and_then r (λ k. Ok (with_plan p k))
    same (Ok k) = refl
    same (Err e) = refl

bare_of : (p : Parsed) (r : Result Command CompileError) (c : Compiled) → and_then r (λ k. Ok (with_plan p k)) ≡ Ok c → IsBare c
bare_of p (Ok k) c is = let e : with_plan p k ≡ c = cc in (ap (λ (d : Compiled). d.returning) (sym e), ap (λ (d : Compiled). d.formats) (sym e))
bare_of p (Err e) c is = absurd cc

-- a SELECT that does not name sqlite_schema: where it is understood, it is the text of the schema's own tables, and bare
pub record IsPlainIn (s : Schema) (sql : List ℕ) (c : Compiled) : Type 0 where
  pub unlisted : reads_listing s sql ≡ false
  bare : IsBare c

plain_select : (s : Schema) (sql : List ℕ) (sel : Select) (p : Parsed) → IsSelect sql sel p → if_select (compiled listing_schema sql) ≡ Err NoSuchTable → (c : Compiled)
    → understood s sql ≡ Ok c → IsPlainIn s sql c
unfolding understood
plain_select s sql sel p is none c known = elim (cases_Bool (reads_listing s sql)) [
  | inl lists ↦ absurd (let e : Err NoSuchTable ≡ Ok c = sym none ∙ (rw lists at known) in cc)
  | inr own ↦ record { unlisted = own; bare = bare_of p (read s sel) c (sym (compiled_select s sql sel p is) ∙ (rw own at known)) }
]

-- so are the queries of the tables
pub plain_in : (t : StoredTable) (s : Schema) (c : Compiled) → understood s (query_of t) ≡ Ok c → IsPlainIn s (query_of t) c
unfolding everything listing_schema
plain_in t s = each_table (λ t. (c : Compiled) → understood s (query_of t) ≡ Ok c → IsPlainIn s (query_of t) c)
    (plain_select s read_format _ _ (record { parsed = refl; statement = refl; timeless = refl }) refl)
    (plain_select s read_release _ _ (record { parsed = refl; statement = refl; timeless = refl }) refl)
    (plain_select s read_span _ _ (record { parsed = refl; statement = refl; timeless = refl }) refl)
    (plain_select s read_line_text _ _ (record { parsed = refl; statement = refl; timeless = refl }) refl)
    (plain_select s read_live _ _ (record { parsed = refl; statement = refl; timeless = refl }) refl)
    (plain_select s read_text _ _ (record { parsed = refl; statement = refl; timeless = refl }) refl)
    (plain_select s read_mark _ _ (record { parsed = refl; statement = refl; timeless = refl }) refl)
    t

-- so is the query of each table, whatever tables there are
pub plain_where : (t : StoredTable) (s : Schema) → IsPlainWhere s (query_of t)
plain_where t s c known = (plain_in t s c known).bare

-- what a plain query is where it is known to be one
pub where_of : (s : Schema) (sql : List ℕ) → IsPlain (understood s sql) → IsPlainWhere s sql
where_of s sql plain c known = subst IsPlain known plain

-- ---- a query that is plain where it is understood

never_returns : (r : Result Compiled CompileError) → ((c : Compiled) → r ≡ Ok c → IsPlain (Ok c)) → Returns r → ⊥
never_returns (Ok c) plain h = let none = (plain c refl).0 in absurd (let some = rw none at h in cc)
never_returns (Err e) plain h = h

-- it begins with no row
pub begun_where : {S : Type 0} (g : store.Ghosts S) (sql : List ℕ) (params : Row) (old new : Held S) → IsPlainWhere old.schema sql → HasBegun g sql params old new
    → HasGiven g sql params new [] × IsUnchanged (state g old) (state g new)
begun_where g sql params old new plain (inl h) = h
begun_where g sql params old new plain (inr h) = absurd (never_returns _ plain h.0)

-- and it commits nothing
pub never_left : (sql : List ℕ) (params : Row) (s : State) (db : Trees) → IsPlainWhere s.now.schema sql → CommitsShowing sql params s db → ⊥
unfolding CommitsShowing
never_left sql params s db plain h = let none = (plain h.0 h.1.is).0 in absurd (let some = rw none at h.2 in cc)

-- ---- what is shown answers the query, and changes nothing

-- whichever the table
pub answered_by : (t : StoredTable) (old new : State) (rows : List Row) → Shown (query_of t) [] old new rows → AnswersQuery old.now (query_of t) rows × IsUnchanged old new
unfolding Shown
answered_by t old new rows h =
    let c = h.0 in
    let plain = plain_in t old.now.schema c h.1.is in
    let got = subst (ShowsRows old new (query_of t) c (with_time [] c.formats h.1.now) rows) plain.bare.0 h.2 in
    let own : got.0 ≡ old.now = subst (λ b. IsSourceOf b old.now got.0) plain.unlisted got.1 in
    (record { compiled = c; is = h.1.is; reads = subst₂ (λ db params. Reads c.command db params rows) own (ap (λ f. with_time [] f h.1.now) plain.bare.1) got.2 }, got.3)

-- rows of its table, read
abbrev pub IsRead : {X : Type 0} → StoredTable → (X → Row) → State → State → List X → Type 0
IsRead t columns old new xs = (rows : List Row) × Shown (query_of t) [] old new rows × (map (take (length (kinds_of t))) rows ≡ map columns xs)

-- a table that is read is read of an open connection
pub opened_by : {X : Type 0} (t : StoredTable) (columns : X → Row) (old new : State) (r : Result (Vec X Global) Error)
    → (IsPlainWhere old.now.schema (query_of t) → HasCleanDisk new → IfOk r (λ all. IsRead t columns old new all.items)) → HasCleanDisk new → OnOk r (IsTrue old.is_open)
opened_by t columns old new (Ok all) read clean = let it = read (plain_where t old.now.schema) clean in (answered_by t old new it.0 it.1).1.0.was_open
opened_by t columns old new (Err e) read clean = tt

-- a table is read by its query
pub shows_by : {X : Type 0} (t : StoredTable) (columns : X → Row) (old new : State) (r : Result (Vec X Global) Error)
    → (IsPlainWhere old.now.schema (query_of t) → HasCleanDisk new → IfOk r (λ all. IsRead t columns old new all.items))
    → Shows (λ db all. ShowsTable db t columns all.items) old new r
shows_by t columns old new r read = record {
  ok = λ clean. IfOk-weaker r _ _ (λ all it.
      let a = answered_by t old new it.0 it.1 in (record { rows = it.0; answers = a.0; are = it.2 }, (a.1.0.now_is, λ up. a.1))) (read (plain_where t old.now.schema) clean);
}
