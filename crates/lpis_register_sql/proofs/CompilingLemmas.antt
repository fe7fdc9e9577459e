-- What such a SELECT compiles to: a query with no group, no limit, and no table that is computed first.
use Rattle.std.proofs.Common.{◌≡◌, ℕ, refl, Bool, true, false, [], List, Some, None, Ok, Err, negsuc, if◌then◌else◌}
use Rattle.sqlite.specs.Query.{Query}
use Rattle.sqlite.specs.Term.{lit}
use Rattle.sqlite.specs.declared.types.Value.TheVariants.{Int}
use Rattle.sqlite_ast.specs.declared.Core.{Core}
use Rattle.sqlite_ast.specs.declared.Select.{Select, out-Select}
use Rattle.sqlite_draft.specs.Query.{query_of}
use Rattle.sqlite_draft.specs.declared.query.Draft.{Draft}
use Rattle.sqlite_schema.specs.declared.command.Command.{Command}
use Rattle.sqlite_schema.specs.declared.command.Command.TheVariants.{Select as Reading}
use Rattle.sqlite_schema.specs.declared.program.Table.{Table as Let}
use Rattle.sqlite_schema.specs.declared.program.Program.{Program}
use Rattle.sqlite_schema.specs.declared.schema.Schema.{Schema}
use Rattle.sqlite_schema.specs.Names.{table_named}
use Rattle.sqlite_sql.specs.Term.{Term}
use Rattle.sqlite_resolve.specs.Lowering.{Checked, and_then, fresh, max_budget}
unfoldable use Rattle.sqlite_resolve.specs.Body.{body, tests}
unfoldable use Rattle.sqlite_resolve.specs.Compile.{read}
use Rattle.sqlite_resolve.specs.Expr.{lower}
unfoldable use Rattle.sqlite_resolve.specs.Order.{keys, sorts}
unfoldable use Rattle.sqlite_resolve.specs.Program.{alone, level, program, query, query_to, single, source, sources, viewing, whole, with}
use Rattle.sqlite_resolve.specs.Program.{Building, Shown, or_view}
use Rattle.sqlite_resolve.specs.Scope.{Name}
unfoldable use Rattle.sqlite_resolve.specs.Select.{assembled, constant_or, having, named, paging, parts, ungrouped}
use Rattle.sqlite_resolve.specs.Select.{outermost}
use Rattle.sqlite_resolve.specs.Terms.{number}
use Rattle.sqlite_resolve.specs.declared.body.Body.{Body}
use Rattle.sqlite_resolve.specs.declared.error.CompileError.{CompileError}
use Rattle.sqlite_resolve.specs.declared.error.CompileError.TheVariants as fault
use Rattle.sqlite_resolve.specs.declared.state.State.{State}
use Rattle.lpis_register_sql.proofs.CalmLemmas.{IsCalm, needs_view}
use Rattle.lpis_register_sql.proofs.SelectLemmas.{IsPlainCore, calm_body}

-- all rows that match, each once
pub record ShowsAll (q : Query) : Type 0 where
  pub ungrouped : q.group ≡ None
  pub repeats : q.distinct ≡ false
  pub unlimited : q.limit ≡ lit (Int (negsuc 0))
  pub from_first : q.offset ≡ number 0

abbrev no_page : Term × Term
no_page = (lit (Int (negsuc 0)), number 0)

-- a draft of such, or a refusal that no view mends
abbrev IsPlainDraft : Checked Shown → Type 0
IsPlainDraft (Ok shown) = ShowsAll (query_of shown.0)
IsPlainDraft (Err e) = needs_view e ≡ false

named_from : (s : Schema) (name : Name) (core : Core) → IsPlainCore name core → (r : Checked (Body × State)) → body lower (outermost s) core (fresh 1 max_budget) ≡ r → IsCalm (fresh 1 max_budget) r
    → IsPlainDraft (named s core [] no_page)
unfolding named parts keys having tests sorts assembled ungrouped
named_from s name core is (Ok it) known none = rw (known, is.no_group, is.no_having, none, is.no_distinct) (record { ungrouped = refl; repeats = refl; unlimited = refl; from_first = refl })
named_from s name core is (Err e) known safe = rw known safe

-- the SELECT has no clause beside, and is one
pub record IsPlainSelect (name : Name) (sel : Select) : Type 0 where
  pub core : IsPlainCore name (out-Select sel).first
  pub no_with : (out-Select sel).with ≡ []
  pub no_others : (out-Select sel).others ≡ []
  pub no_order : (out-Select sel).order ≡ []
  pub no_limit : (out-Select sel).limit ≡ None
  pub no_offset : (out-Select sel).offset ≡ None

-- what no view mends is refused at once
refused : (below : Schema → Select → Building Shown) (again : Schema → Building (Shown × Schema)) (outer s : Schema) (e : CompileError) (lets : List Let) → needs_view e ≡ false
    → or_view below again outer s (Err e) lets ≡ Err e
refused below again outer s (fault.NeedsView at) lets safe = absurd cc
refused below again outer s _ lets safe = refl

-- a query of such, with no table that is computed first
abbrev AsksAll : Checked (Shown × List Let) → Type 0
AsksAll (Ok it) = (it.1 ≡ []) × ShowsAll (query_of it.0.0)
AsksAll (Err e) = Unit {0}

query_from : (s : Schema) (name : Name) (sel : Select) → IsPlainSelect name sel → (r : Checked Shown) → named s (out-Select sel).first [] no_page ≡ r → IsPlainDraft r → AsksAll (query s sel)
unfolding query query_to level with whole alone single sources source viewing paging constant_or
query_from s name sel is (Ok shown) known all =
    rw (is.no_with, is.no_limit, is.no_offset, is.no_others, is.no_order, is.core.one_source, is.core.source.table, known) (refl, all)
query_from s name sel is (Err e) known safe =
    rw (is.no_with, is.no_limit, is.no_offset, is.no_others, is.no_order, is.core.one_source, is.core.source.table, known, refused _ _ s s e [] safe) tt

-- a query of such
pub record ReadsAll (k : Command) : Type 0 where
  pub program : Program
  pub names : List Name
  pub is : k ≡ Reading program names
  pub alone : program.lets ≡ []
  pub all : ShowsAll program.body

planned_if : (b : Bool) (p : Program) (names : List Name) (k : Command) → and_then (if b then Ok p else Err fault.Mismatch) (λ p. Ok (Reading p names)) ≡ Ok k → k ≡ Reading p names
planned_if true p names k known = cc
planned_if false p names k known = absurd cc

planned_all : (s : Schema) (d : Draft) (names : List Name) (k : Command) → ShowsAll (query_of d) → and_then (program s [] d) (λ p. Ok (Reading p names)) ≡ Ok k → ReadsAll k
unfolding program
planned_all s d names k all known =
    let p : Program = record { lets = []; body = query_of d } in
    record { program = p; names = names; is = planned_if _ p names k known; alone = refl; all = all }

read_from : (s : Schema) (r : Checked (Shown × List Let)) (k : Command) → AsksAll r → and_then r (λ q. and_then (program s q.1 q.0.0) (λ p. Ok (Reading p q.0.1))) ≡ Ok k → ReadsAll k
read_from s (Ok it) k asks known = planned_all s it.0.0 it.0.1 k asks.1 (rw asks.0 at known)
read_from s (Err e) k asks known = absurd cc

-- a SELECT of columns over a table that is there asks for all rows
pub read_all : (s : Schema) (name : Name) (place : ℕ) (sel : Select) (k : Command) → IsPlainSelect name sel → table_named s name ≡ Some place → read s sel ≡ Ok k → ReadsAll k
unfolding read
read_all s name place sel k is named_at known =
    let core = (out-Select sel).first in
    read_from s (query s sel) k
    (query_from s name sel is (named s core [] no_page) refl
    (named_from s name core is.core (body lower (outermost s) core (fresh 1 max_budget)) refl (calm_body s name place core is.core named_at)))
    known
