-- Two answers to the query of a table are the same rows, whatever tables there are.
use Rattle.std.proofs.Common.{◌≡◌, ℕ, refl, sym, ◌∙◌, ap, subst, true, false, [], ◌∷◌, ◌+◌, List, Some, None, Ok, Err, map, inl, inr, IsPermutation}
use Rattle.std.proofs.lemmas.Bool.{cases_Bool}
use Rattle.std.proofs.lemmas.List.Sorted.{IsPermutation-map, IsPermutation-sym, IsPermutation-trans}
use Rattle.std.specs.List.{list_all, list_any, position_from}
use Rattle.sqlite.specs.Effect.{Database, Reads}
use Rattle.sqlite.specs.Listing.{reads_listing}
unfoldable use Rattle.sqlite.specs.Listing.{understood}
use Rattle.sqlite.specs.Order.{Row}
use Rattle.sqlite.specs.Query.{Query}
use Rattle.sqlite.specs.Tree.{Trees}
use Rattle.sqlite.specs.declared.types.Value.TheVariants.{Null}
use Rattle.sqlite_ast.specs.declared.Core.{Core, out-Core}
use Rattle.sqlite_ast.specs.declared.Select.{Select, out-Select}
use Rattle.sqlite_ast.specs.declared.Source.{Source, out-Source}
use Rattle.sqlite_ast.specs.declared.Origin.TheVariants as origin
use Rattle.sqlite_ast.specs.declared.Statement.TheVariants as written
use Rattle.sqlite_resolve.specs.Compile.{compiled, first, read}
use Rattle.sqlite_resolve.specs.Lowering.{Checked, and_then}
use Rattle.sqlite_resolve.specs.declared.compiled.Compiled.{Compiled}
use Rattle.sqlite_schema.specs.Names.{same_name, table_named}
use Rattle.sqlite_schema.specs.Program.{let_in}
use Rattle.sqlite_schema.specs.declared.command.Command.{Command}
use Rattle.sqlite_schema.specs.declared.schema.Schema.{Schema}
use Rattle.sqlite_schema.specs.declared.schema.Table.{Table}
use Rattle.sqlite_sql.specs.Group.{IsGrouped}
use Rattle.sqlite_sql.specs.Program.{IsProgramAnswer, overlay}
use Rattle.sqlite_sql.specs.Query.{IsAnswer, IsKept, matches, output, page}
use Rattle.sqlite_syntax.specs.declared.statement.Parsed.{Parsed}
use Rattle.sqlite_tied.specs.Compute.{everything}
use Rattle.lpis_register_sql.proofs.AnsweringLemmas.{IsSelect, compiled_select, plain_in, with_plan}
use Rattle.lpis_register_sql.proofs.CompilingLemmas.{IsPlainSelect, ReadsAll, ShowsAll, read_all}
use Rattle.lpis_register_sql.proofs.NamedLemmas.{each_table}
use Rattle.lpis_register_sql.proofs.SelectLemmas.{IsPlainSource, shows_column}
use Rattle.lpis_register_sql.specs.Presence.{has_table}
use Rattle.lpis_register_sql.specs.Showing.{AnswersQuery}
use Rattle.lpis_register_sql.specs.StoredTables.{Formats, Lines, Lives, Marks, Spans, StoredTable, Texts, Years, name_of, query_of}
use Rattle.lpis_register_sql.specs.private.Shown.{read_format, read_line_text, read_live, read_mark, read_release, read_span, read_text}

-- ---- answers

-- all that match, shown
abbrev all_shown : Query → Trees → Row → List Row
all_shown q trees params = map (λ o. o.1) (map (output q) (matches trees q.filter q.from (params ∷ [])))

unpaged : (q : Query) (params : Row) (rows : List Row) → ShowsAll q → page q params rows ≡ rows
unpaged q params rows all = rw (all.unlimited, all.from_first) refl

-- an answer is these, in some order
answer_is : (q : Query) (trees : Trees) (params : Row) (rows : List Row) → ShowsAll q → IsAnswer q trees params rows → IsPermutation (all_shown q trees params) rows
answer_is q trees params rows all is =
    let staged = subst (λ g. IsGrouped g params (matches trees q.filter q.from (params ∷ [])) is.staged) all.ungrouped is.grouped in
    let kept = subst (λ b. IsKept b q.collations (map (output q) is.staged) is.kept) all.repeats is.distinct in
    let whole = subst (λ from. IsPermutation (map (output q) from) is.ordered) staged (subst (λ from. IsPermutation from is.ordered) kept is.same) in
    subst (IsPermutation (all_shown q trees params)) (sym (is.shown ∙ unpaged q params (map (λ o. o.1) is.ordered) all)) (IsPermutation-map (λ o. o.1) _ is.ordered whole)

-- what a command of such reads
read_is : (k : Command) (db : Database) (rows : List Row) (it : ReadsAll k) → Reads k db [] rows → IsPermutation (all_shown it.program.body (overlay db.trees []) []) rows
read_is k db rows it reads =
    let answers = subst (λ k. Reads k db [] rows) it.is reads in
    answer_is it.program.body (overlay db.trees []) [] rows it.all (subst (λ lets. IsProgramAnswer (map let_in lets) it.program.body db.trees [] rows) it.alone answers.answer Null)

one_read : (k : Command) (db : Database) (rows others : List Row) → ReadsAll k → Reads k db [] rows → Reads k db [] others → IsPermutation rows others
one_read k db rows others it a b = IsPermutation-trans rows _ others (IsPermutation-sym _ rows (read_is k db rows it a)) (read_is k db others it b)

-- ---- texts

-- a table that is there has a place
place_of : (s : Schema) (name : List ℕ) → has_table s name ≡ true → (place : ℕ) × (table_named s name ≡ Some place)
place_of s name there = go s.tables 0 there
  where
    go : (tables : List Table) (from : ℕ) → list_any (λ t. same_name t.name name) tables ≡ true → (place : ℕ) × (position_from (λ t. same_name t.name name) from tables ≡ Some place)
    go [] from there = absurd cc
    go (t ∷ tables) from there = elim (cases_Bool (same_name t.name name)) [
      | inl named ↦ (from, rw named refl)
      | inr other ↦ let rest = go tables (from + 1) (rw other at there) in (rest.0, rw other rest.1)
    ]

-- a text of such a SELECT
record IsPlainText (sql name : List ℕ) : Type 0 where
  sel : Select
  p : Parsed
  select : IsSelect sql sel p
  plain : IsPlainSelect name sel

command_is : (p : Parsed) (r : Checked Command) (c : Compiled) → and_then r (λ k. Ok (with_plan p k)) ≡ Ok c → r ≡ Ok c.command
command_is p (Ok k) c known = let same : with_plan p k ≡ c = cc in ap (λ (c : Compiled). Ok c.command) same
command_is p (Err e) c known = absurd cc

text_reads_all : (s : Schema) (sql name : List ℕ) (c : Compiled) → IsPlainText sql name → has_table s name ≡ true → compiled s sql ≡ Ok c → ReadsAll c.command
text_reads_all s sql name c text there known =
    let place = place_of s name there in
    read_all s name place.0 text.sel c.command text.plain place.1 (command_is text.p (read s text.sel) c (sym (compiled_select s sql text.sel text.p text.select) ∙ known))

-- what FROM lists, where it lists this table alone
abbrev ListsTable : List ℕ → List Source → Type 0
ListsTable name [] = ⊥
ListsTable name (src ∷ []) = ((out-Source src).origin ≡ origin.Table name) × ((out-Source src).is_left ≡ false) × ((out-Source src).on ≡ None) × ((out-Source src).using ≡ [])
ListsTable name (src ∷ other ∷ more) = ⊥

listed : (name : List ℕ) (from : List Source) → ListsTable name from → (src : Source) × (from ≡ src ∷ []) × IsPlainSource name src
listed name [] lists = absurd lists
listed name (src ∷ []) lists = (src, refl, record { table = lists.0; inner = lists.1; no_on = lists.2; no_using = lists.3 })
listed name (src ∷ other ∷ more) lists = absurd lists

module _ (sql name : List ℕ) (p : Parsed) (sel : Select) where
  abbrev core : Core
  core = (out-Select sel).first

  text_of : first sql ≡ Ok p → p.statement ≡ written.Select sel → p.formats ≡ [] → ListsTable name (out-Core core).from
      → list_all shows_column (out-Core core).shown ≡ true → (out-Core core).filter ≡ None → (out-Core core).group ≡ [] → (out-Core core).having ≡ None → (out-Core core).distinct ≡ false
      → (out-Select sel).with ≡ [] → (out-Select sel).others ≡ [] → (out-Select sel).order ≡ [] → (out-Select sel).limit ≡ None → (out-Select sel).offset ≡ None → IsPlainText sql name
  text_of parsed statement timeless lists columns no_filter no_group no_having no_distinct no_with no_others no_order no_limit no_offset =
      let one = listed name (out-Core core).from lists in
      record {
        sel = sel;
        p = p;
        select = record { parsed = parsed; statement = statement; timeless = timeless };
        plain = record {
          core = record { src = one.0; one_source = one.1; source = one.2; columns = columns; no_filter = no_filter; no_group = no_group; no_having = no_having; no_distinct = no_distinct };
          no_with = no_with;
          no_others = no_others;
          no_order = no_order;
          no_limit = no_limit;
          no_offset = no_offset;
        };
      }

-- so are the queries of the tables
plain_text : (t : StoredTable) → IsPlainText (query_of t) (name_of t)
unfolding everything
plain_text = each_table (λ t. IsPlainText (query_of t) (name_of t))
    (text_of read_format (name_of Formats) _ _ refl refl refl (refl, refl, refl, refl) refl refl refl refl refl refl refl refl refl refl)
    (text_of read_release (name_of Years) _ _ refl refl refl (refl, refl, refl, refl) refl refl refl refl refl refl refl refl refl refl)
    (text_of read_span (name_of Spans) _ _ refl refl refl (refl, refl, refl, refl) refl refl refl refl refl refl refl refl refl refl)
    (text_of read_line_text (name_of Lines) _ _ refl refl refl (refl, refl, refl, refl) refl refl refl refl refl refl refl refl refl refl)
    (text_of read_live (name_of Lives) _ _ refl refl refl (refl, refl, refl, refl) refl refl refl refl refl refl refl refl refl refl)
    (text_of read_text (name_of Texts) _ _ refl refl refl (refl, refl, refl, refl) refl refl refl refl refl refl refl refl refl refl)
    (text_of read_mark (name_of Marks) _ _ refl refl refl (refl, refl, refl, refl) refl refl refl refl refl refl refl refl refl refl)

-- ---- the law

own_text : (s : Schema) (sql : List ℕ) (c : Compiled) → reads_listing s sql ≡ false → understood s sql ≡ Ok c → compiled s sql ≡ Ok c
unfolding understood
own_text s sql c own known = rw own at known

-- two answers are the same rows
pub two_answers : (db : Database) (t : StoredTable) (rows others : List Row) → has_table db.schema (name_of t) ≡ true → AnswersQuery db (query_of t) rows → AnswersQuery db (query_of t) others
    → IsPermutation rows others
two_answers db t rows others there a b =
    let same : b.compiled ≡ a.compiled = (let one : Ok b.compiled ≡ Ok a.compiled = sym b.is ∙ a.is in cc) in
    let known = own_text db.schema (query_of t) a.compiled (plain_in t db.schema a.compiled a.is).unlisted a.is in
    let all = text_reads_all db.schema (query_of t) (name_of t) a.compiled (plain_text t) there known in
    one_read a.compiled.command db rows others all a.reads (subst (λ c. Reads c.command db [] others) same b.reads)
