-- A SELECT of columns over one table, in any schema that has the table.
use Rattle.std.proofs.Common.{◌≡◌, ℕ, ◌++◌, refl, Bool, true, false, [], ◌∷◌, List, Some, None}
use Rattle.std.proofs.lemmas.Bool.{and_parts}
use Rattle.std.specs.List.{list_all}
use Rattle.sqlite_ast.specs.declared.Expr.TheOpen.{Shown-F}
use Rattle.sqlite_ast.specs.declared.Shown.{Shown, out-Shown}
use Rattle.sqlite_ast.specs.Layer.{ShownLayer}
use Rattle.sqlite_ast.specs.declared.Source.{Source, out-Source}
use Rattle.sqlite_ast.specs.declared.Origin.TheVariants as origin
use Rattle.sqlite_ast.specs.declared.Core.{Core, out-Core}
use Rattle.sqlite_schema.specs.declared.schema.Schema.{Schema}
use Rattle.sqlite_schema.specs.Names.{table_named}
use Rattle.sqlite_sql.specs.Term.{Term}
unfoldable use Rattle.sqlite_resolve.specs.Lowering.{take_slot}
use Rattle.sqlite_resolve.specs.Lowering.{fresh, last, max_budget}
unfoldable use Rattle.sqlite_resolve.specs.Body.{agreeing, body, bound, bounds, first_with, inner_join, join, joins, matching, outputs, result, shared, shown, table_in, tests}
use Rattle.sqlite_resolve.specs.Body.{joins_from, leftmost, is_column, outputs_from, shared_from, shown_at}
use Rattle.sqlite_resolve.specs.Expr.{lower}
use Rattle.sqlite_resolve.specs.Scope.{Context, Name}
use Rattle.sqlite_resolve.specs.Select.{outermost}
use Rattle.sqlite_resolve.specs.declared.body.Joined.{Joined}
use Rattle.sqlite_resolve.specs.declared.error.CompileError.TheVariants.{NoSuchColumn, NoSuchTable}
use Rattle.sqlite_resolve.specs.declared.scope.Bound.{Bound}
use Rattle.sqlite_resolve.specs.declared.scope.Level.{Level}
use Rattle.sqlite_resolve.specs.declared.scope.Output.{Output}
use Rattle.lpis_register_sql.proofs.CalmLemmas.{Calm, IsCalm, calm_bind, calm_fail, calm_if, calm_lift, calm_lower, calm_pure, calm_term, calm_then, safe_or}

-- ---- the columns of the result

abbrev shows_column_at : ShownLayer → Bool
shows_column_at (Shown-F.One e name text) = is_column e
shows_column_at _ = false

-- a column is shown
abbrev pub shows_column : Shown → Bool
shows_column s = shows_column_at (out-Shown s)

calm_last : Calm last
calm_last = record { at = λ st. refl }

calm_shown : (cx : Context) (tables : List Bound) (done : List Output) (l : ShownLayer) → shows_column_at l ≡ true → Calm (shown_at lower cx tables done l)
calm_shown cx tables done (Shown-F.One e name text) is = calm_then (calm_lower cx e is) (λ t. calm_then calm_last (λ c. calm_pure _))
calm_shown cx tables done _ is = absurd cc

calm_outputs : (cx : Context) (tables : List Bound) (done : List Output) (list : List Shown) → list_all shows_column list ≡ true → Calm (outputs_from lower cx tables done list)
unfolding shown
calm_outputs cx tables done [] all = calm_pure done
calm_outputs cx tables done (s ∷ list) all =
    let both = and_parts (shows_column s) _ all in
    calm_then (calm_shown cx tables done (out-Shown s) both.0) (λ longer. calm_outputs cx tables longer list both.1)

-- ---- the table

-- a source is this table, and is joined with no test
pub record IsPlainSource (name : Name) (src : Source) : Type 0 where
  pub table : (out-Source src).origin ≡ origin.Table name
  pub inner : (out-Source src).is_left ≡ false
  pub no_on : (out-Source src).on ≡ None
  pub no_using : (out-Source src).using ≡ []

-- it is bound, where the schema has it
safe_bounds : (s : Schema) (name : Name) (place : ℕ) (src : Source) → IsPlainSource name src → table_named s name ≡ Some place → IsCalm (fresh 1 max_budget) (bounds s (src ∷ []) (fresh 1 max_budget))
unfolding bounds bound take_slot table_in
safe_bounds s name place src is named = rw (is.table, named) refl

-- ---- FROM and WHERE

calm_tests : (cx : Context) (done : List Term) → Calm (tests lower cx done None)
unfolding tests
calm_tests cx done = calm_pure done

calm_agreeing : (cx : Context) (tables : List Bound) (b : Bound) (name : Name) → Calm (agreeing cx tables b name)
unfolding agreeing first_with
calm_agreeing cx tables b name =
    calm_then (calm_then (calm_lift _ (safe_or (leftmost cx.schema name tables) NoSuchColumn refl)) (calm_term cx)) (λ left.
    calm_then calm_last (λ p.
    calm_then (calm_then (calm_lift _ (safe_or _ NoSuchColumn refl)) (calm_term cx)) (λ right.
    calm_then calm_last (λ q. calm_if _ (calm_pure _) (calm_fail NoSuchColumn refl)))))

calm_shared : (cx : Context) (tables : List Bound) (b : Bound) (done : List Term) (names : List Name) → Calm (shared_from cx tables b done names)
calm_shared cx tables b done [] = calm_pure done
calm_shared cx tables b done (name ∷ names) = calm_then (calm_agreeing cx tables b name) (λ t. calm_shared cx tables b (done ++ t ∷ []) names)

calm_join : (cx : Context) (tables : List Bound) (done : Joined) (b : Bound) (name : Name) (src : Source) → IsPlainSource name src → Calm (join lower cx tables done b src)
unfolding join shared inner_join
calm_join cx tables done b name src is =
    calm_then (calm_lift _ (safe_or _ NoSuchTable refl)) (λ table. calm_then (calm_shared cx tables b [] b.shared) (λ same.
    rw (is.inner, is.no_on) (calm_then (calm_tests cx (done.filter ++ same)) (λ filter. calm_pure _))))

calm_joins : (cx : Context) (tables : List Bound) (done : Joined) (bs : List Bound) (name : Name) (src : Source) → IsPlainSource name src → Calm (joins_from lower cx tables done bs (src ∷ []))
calm_joins cx tables done [] name src is = calm_pure done
calm_joins cx tables done (b ∷ []) name src is = calm_then (calm_join cx tables done b name src is) (λ longer. calm_pure longer)
calm_joins cx tables done (b ∷ c ∷ bs) name src is = calm_then (calm_join cx tables done b name src is) (λ longer. calm_pure longer)

-- ---- the whole of it

-- the SELECT has no clause but its columns and the table of this name
pub record IsPlainCore (name : Name) (core : Core) : Type 0 where
  pub src : Source
  pub one_source : (out-Core core).from ≡ src ∷ []
  pub source : IsPlainSource name src
  pub columns : list_all shows_column (out-Core core).shown ≡ true
  pub no_filter : (out-Core core).filter ≡ None
  pub no_group : (out-Core core).group ≡ []
  pub no_having : (out-Core core).having ≡ None
  pub no_distinct : (out-Core core).distinct ≡ false

calm_matching : (cx : Context) (level : Level) (name : Name) (core : Core) → IsPlainCore name core → Calm (matching lower cx level core)
unfolding matching joins
calm_matching cx level name core is =
    rw (is.one_source, is.no_filter, is.source.no_on, is.source.no_using)
    (calm_then (calm_joins _ level.tables _ level.tables name is.src is.source) (λ done. calm_then (calm_tests _ done.filter) (λ filter. calm_pure _)))

calm_result : (cx : Context) (level : Level) (name : Name) (core : Core) → IsPlainCore name core → Calm (result lower cx level core)
unfolding result outputs
calm_result cx level name core is = calm_outputs _ level.tables [] (out-Core core).shown is.columns

-- such a SELECT is read calmly, where the schema has its table
pub calm_body : (s : Schema) (name : Name) (place : ℕ) (core : Core) → IsPlainCore name core → table_named s name ≡ Some place
    → IsCalm (fresh 1 max_budget) (body lower (outermost s) core (fresh 1 max_budget))
unfolding body
calm_body s name place core is named =
    calm_bind (fresh 1 max_budget) (bounds s (out-Core core).from (fresh 1 max_budget)) _ (rw is.one_source (safe_bounds s name place is.src is.source named)) (λ tables.
    calm_then (calm_result (outermost s) _ name core is) (λ columns. calm_then (calm_matching (outermost s) _ name core is) (λ joined. calm_pure _)))
