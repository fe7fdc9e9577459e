-- Reading columns keeps the aggregates, and needs no view.
use Rattle.std.proofs.Common.{◌≡◌, ℕ, nat_lt, slice_get, is_some, ◌==◌, ◌+◌, ◌||◌, if◌then◌else◌, ◌&&◌, not, refl, ◌∙◌, Bool, true, false, [], ◌∷◌, List, Option, Some, None, Ok, Err, IfErr, inl, inr}
use Rattle.std.proofs.lemmas.Bool.{cases_Bool}
use Rattle.sqlite_ast.specs.declared.Expr.{Expr, out-Expr}
use Rattle.sqlite_ast.specs.declared.Expr.TheOpen.{Expr-F}
use Rattle.sqlite_schema.specs.declared.schema.Schema.{Schema}
use Rattle.sqlite_draft.specs.Measure.{nodes, reads}
use Rattle.sqlite_sql.specs.Term.{Term, col}
use Rattle.sqlite_resolve.specs.Lowering.{Checked, Lowering, and_then, or_else, ◌>>=◌, carry, fail, height, max_height, nothing, pending, pure, lift}
unfoldable use Rattle.sqlite_resolve.specs.Lowering.{spend, again, begin, finish, take_slot}
unfoldable use Rattle.sqlite_resolve.specs.Scope.{find, in_level, only, term_of, column_at, column, shown_again}
use Rattle.sqlite_resolve.specs.Scope.{Context, Name, is_rowid, find_from, only_from, found_or, at_most_one}
unfoldable use Rattle.sqlite_resolve.specs.Expr.{lower_to, node, opened}
use Rattle.sqlite_resolve.specs.Expr.{lower, node_at, passes}
unfoldable use Rattle.sqlite_resolve.specs.Body.{is_column}
use Rattle.sqlite_resolve.specs.Body.{is_column_at}
use Rattle.sqlite_ast.specs.Layer.{Layer}
use Rattle.sqlite_value.specs.declared.keys.Collation.{Collation}
use Rattle.sqlite_resolve.specs.declared.state.Passes.{Passes}
use Rattle.sqlite_resolve.specs.declared.error.CompileError.{CompileError}
use Rattle.sqlite_resolve.specs.declared.error.CompileError.TheVariants.{Ambiguous, NeedsView, NoSuchColumn, TooBig, Misuse, Unsupported}
use Rattle.sqlite_resolve.specs.declared.state.Carried.{Carried}
use Rattle.sqlite_resolve.specs.declared.scope.Bound.{Bound}
use Rattle.sqlite_resolve.specs.declared.scope.Found.{Found}
use Rattle.sqlite_resolve.specs.declared.scope.Found.TheVariants.{Column, Rowid, Alias}
use Rattle.sqlite_resolve.specs.declared.scope.Level.{Level}
use Rattle.sqlite_resolve.specs.declared.scope.Output.{Output}
use Rattle.sqlite_resolve.specs.declared.state.State.{State}

-- the error of a view that was not computed
abbrev pub needs_view : CompileError → Bool
needs_view (NeedsView at) = true
needs_view _ = false

-- it does not fail for want of a view
pub record IsSafe {A : Type 0} (r : Checked A) : Type 0 where
  pub is : IfErr r (λ e. needs_view e ≡ false)

-- nor did this, which left the aggregates that there were
abbrev pub IsCalm : {A : Type 0} → State → Checked (A × State) → Type 0
IsCalm st (Ok r) = r.1.aggregates ≡ st.aggregates
IsCalm st (Err e) = needs_view e ≡ false

-- such are the steps, from any state
pub record Calm {A : Type 0} (p : Lowering A) : Type 0 where
  pub at : (st : State) → IsCalm st (p st)

-- ---- checks

safe_ok : {A : Type 0} {a : A} → IsSafe (Ok a)
safe_ok = record { is = tt }

safe_err : {A : Type 0} (e : CompileError) → needs_view e ≡ false → IsSafe {A = A} (Err e)
safe_err e safe = record { is = safe }

-- an absent value is refused with an error that may be chosen
pub safe_or : {A : Type 0} (r : Option A) (e : CompileError) → needs_view e ≡ false → IsSafe (or_else r e)
safe_or (Some a) e safe = safe_ok
safe_or None e safe = safe_err e safe

safe_if : {A : Type 0} (b : Bool) {r t : Checked A} → IsSafe r → IsSafe t → IsSafe (if b then r else t)
safe_if true one two = one
safe_if false one two = two

-- one check after the other
safe_then : {A B : Type 0} (r : Checked A) {f : A → Checked B} → IsSafe r → ((a : A) → IsSafe (f a)) → IsSafe (and_then r f)
safe_then (Ok a) one two = two a
safe_then (Err e) one two = record { is = one.is }

-- ---- steps

calm_after : {A : Type 0} (a b : State) (r : Checked (A × State)) → b.aggregates ≡ a.aggregates → IsCalm b r → IsCalm a r
calm_after a b (Ok r) same calm = calm ∙ same
calm_after a b (Err e) same calm = calm

-- steps after a step that was taken
pub calm_bind : {A B : Type 0} (st : State) (r : Checked (A × State)) (f : A → Lowering B) → IsCalm st r → ((a : A) → Calm (f a)) → IsCalm st (and_then r (λ r. f r.0 r.1))
calm_bind st (Ok r) f one two = calm_after st r.1 (f r.0 r.1) one ((two r.0).at r.1)
calm_bind st (Err e) f one two = one

-- steps in turn
pub calm_then : {A B : Type 0} {p : Lowering A} {f : A → Lowering B} → Calm p → ((a : A) → Calm (f a)) → Calm (p >>= f)
calm_then {p = p} {f = f} one two = record { at = λ st. calm_bind st (p st) f (one.at st) two }

-- a value
pub calm_pure : {A : Type 0} (a : A) → Calm (pure a)
calm_pure a = record { at = λ st. refl }

-- a refusal
pub calm_fail : {A : Type 0} (e : CompileError) → needs_view e ≡ false → Calm {A = A} (fail e)
calm_fail e safe = record { at = λ st. safe }

-- a check
pub calm_lift : {A : Type 0} (r : Checked A) → IsSafe r → Calm (lift r)
calm_lift (Ok a) safe = record { at = λ st. refl }
calm_lift (Err e) safe = record { at = λ st. safe.is }

-- either of two
pub calm_if : {A : Type 0} (b : Bool) {p q : Lowering A} → Calm p → Calm q → Calm (if b then p else q)
calm_if true one two = one
calm_if false one two = two

-- ---- terms

calm_spend : (n : ℕ) → Calm (spend n)
unfolding spend
calm_spend n = record {
  at = λ st. elim (cases_Bool (nat_lt n st.budget)) [
    | inl fits ↦ rw fits refl
    | inr lacks ↦ rw lacks refl
  ];
}

calm_again : (t : Term) → Calm (again t)
unfolding again
calm_again t = calm_then (calm_spend (nodes t)) (λ done. calm_if (nat_lt max_height (height t)) (calm_fail TooBig refl) (calm_pure t))

calm_carry : (c : Carried) → Calm (carry c)
calm_carry c = record { at = λ st. refl }

calm_shown_again : (may : Bool) (shown : List Output) (place : ℕ) → Calm (shown_again may shown place)
unfolding shown_again
calm_shown_again may shown place =
    calm_then (calm_lift _ (safe_or (slice_get shown place) NoSuchColumn refl))
    (λ o. calm_if (reads pending o.term && not may) (calm_fail Misuse refl) (calm_then (calm_carry o.carried) (λ done. calm_again o.term)))

-- ---- columns

safe_most : (one two : Option Found) → IsSafe (at_most_one one two)
safe_most one None = safe_ok
safe_most None (Some x) = safe_ok
safe_most (Some y) (Some x) = safe_err Ambiguous refl

safe_only : (test : Bound → Option Found) (found : Option Found) (tables : List Bound) → IsSafe (only_from test found tables)
safe_only test found [] = safe_ok
safe_only test found (b ∷ tables) = safe_then (at_most_one found (test b)) (safe_most found (test b)) (λ more. safe_only test more tables)

safe_level : (s : Schema) (table : Option Name) (name : Name) (depth : ℕ) (level : Level) → IsSafe (in_level s table name depth level)
unfolding in_level only
safe_level s table name depth level =
    safe_then (only s table name false level.tables) (safe_only _ None level.tables) (λ column. safe_if (is_some column) safe_ok
    (safe_then (if is_rowid name then only s table name true level.tables else Ok None) (safe_if (is_rowid name) (safe_only _ None level.tables) safe_ok)
    (λ rowid. safe_if (is_some rowid || is_some table) safe_ok safe_ok)))

safe_found : (outside : Checked Found) (found : Option Found) → IsSafe outside → IsSafe (found_or outside found)
safe_found outside None safe = safe
safe_found outside (Some found) safe = safe_ok

safe_from : (s : Schema) (table : Option Name) (name : Name) (depth : ℕ) (levels : List Level) → IsSafe (find_from s table name depth levels)
safe_from s table name depth [] = safe_err NoSuchColumn refl
safe_from s table name depth (l ∷ outer) =
    safe_then (in_level s table name depth l) (safe_level s table name depth l) (λ found. safe_found _ found (safe_from s table name (depth + 1) outer))

-- the term of a column that was found
pub calm_term : (cx : Context) (found : Found) → Calm (term_of cx found)
unfolding term_of column_at
calm_term cx (Column slot table place) = calm_then (calm_lift _ (safe_or _ NoSuchColumn refl)) (λ found. calm_then (calm_carry found.1) (λ done. calm_pure found.0))
calm_term cx (Rowid slot table) = calm_then (calm_carry nothing) (λ done. calm_pure (col slot 0))
calm_term cx (Alias depth place) =
    calm_if (not cx.may_alias) (calm_fail Unsupported refl)
    (calm_then (calm_lift _ (safe_or (slice_get cx.levels depth) NoSuchColumn refl)) (λ l. calm_shown_again (cx.may_aggregate && depth == 0) l.shown place))

calm_column : (cx : Context) (table : Option Name) (name : Name) → Calm (column cx table name)
unfolding column find
calm_column cx table name = calm_then (calm_lift (find cx table name) (safe_from cx.schema table name 0 cx.levels)) (calm_term cx)

calm_at : (deep : Context → Expr → Lowering Term) (cx : Context) (l : Layer) → is_column_at l ≡ true → Calm (node_at deep cx l)
calm_at deep cx (Expr-F.Column table name) is = calm_column cx table name
calm_at deep cx _ is = absurd cc

calm_node : (deep : Context → Expr → Lowering Term) (cx : Context) (e : Expr) → is_column e ≡ true → Calm (node deep cx e)
unfolding node opened is_column begin finish
calm_node deep cx e is =
    calm_then (calm_spend 1) (λ done. calm_then begin_calm (λ outer. calm_then (calm_at deep cx (out-Expr e) is) (λ t. calm_then (finish_calm outer (passes e)) (λ done. calm_pure t))))
  where
    begin_calm : Calm begin
    begin_calm = record { at = λ st. refl }

    finish_calm : (outer : Option Collation) (how : Passes) → Calm (finish outer how)
    finish_calm outer how = record { at = λ st. refl }

-- a column
pub calm_lower : (cx : Context) (e : Expr) → is_column e ≡ true → Calm (lower cx e)
unfolding lower_to
calm_lower cx e is = calm_node (lower_to 699) cx e is
