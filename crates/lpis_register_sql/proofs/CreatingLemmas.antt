-- Statements that make a table of the register, in any schema: what they are compiled to, and which tables are there afterwards.
use Rattle.std.proofs.Common.{◌≡◌, refl, ◌∙◌, ap, sym, subst, [], ◌∷◌, ◌||◌, List, ℕ, true, false, Bool, None, Some, Ok}
use Rattle.std.proofs.Common.{Err, Option, Result, inl, inr, ◌⊎◌, codes, MatchBool, ◌+◌, true≢false, is_some, if◌then◌else◌, length, not, ◌==◌, ◌&&◌}
use Rattle.std.proofs.lemmas.Bool.{cases_Bool}
use Rattle.std.proofs.lemmas.List.Folds.{list_any-append}
use Rattle.std.specs.Bool.{⊤}
use Rattle.std.specs.List.{list_any, position_from}
use Rattle.std.specs.Option.{option_or}
use Rattle.std.specs.Prelude.{slice_range}
use Rattle.sqlite.specs.Change.{created}
use Rattle.sqlite.specs.Does.{Does, MakesTable, Tally, lacks_sequence, sequence_text}
use Rattle.sqlite.specs.Effect.{Database, IsDatabase}
use Rattle.sqlite.specs.Listing.{is_select}
unfoldable use Rattle.sqlite.specs.Listing.{listing_schema, understood}
use Rattle.sqlite.specs.Order.{Row}
use Rattle.sqlite.specs.State.{ExecutesInside, Runs, RunsAlone, State, mode_of, shows_rows, text_of}
unfoldable use Rattle.sqlite.specs.State.{ExecutesIn}
use Rattle.sqlite.specs.declared.error.Error.{Error}
use Rattle.sqlite.specs.declared.run.Mode.{Mode}
use Rattle.sqlite_ast.specs.declared.CreateTable.{CreateTable}
use Rattle.sqlite_ast.specs.declared.Statement.{Statement}
use Rattle.sqlite_ast.specs.declared.Statement.TheVariants as written
use Rattle.sqlite_resolve.specs.Compile.{command_by, is_attached, is_reserved, returning_by, with_command}
unfoldable use Rattle.sqlite_resolve.specs.Compile.{command as command_for, compiled, create_table, creates, first, meaning, planned, returning, table_defined_by}
use Rattle.sqlite_resolve.specs.Define as define
use Rattle.sqlite_resolve.specs.Lowering.{Checked, and_then}
use Rattle.sqlite_resolve.specs.declared.compiled.Compiled.{Compiled}
use Rattle.sqlite_resolve.specs.declared.error.CompileError.TheVariants.{Unsupported}
use Rattle.sqlite_rules.specs.Lists.{Has}
use Rattle.sqlite_schema.specs.Names.{same_name, table_named, view_named}
use Rattle.sqlite_schema.specs.declared.command.Command.{Command}
use Rattle.sqlite_schema.specs.declared.command.Command.TheVariants as command
use Rattle.sqlite_schema.specs.declared.command.Returning.{Returning}
use Rattle.sqlite_schema.specs.declared.schema.Schema.{Schema}
use Rattle.sqlite_schema.specs.declared.schema.Table.{Table}
use Rattle.sqlite_syntax.specs.declared.statement.Parsed.{Parsed}
use Rattle.sqlite_tied.specs.Compute.{everything}
use Rattle.lpis_register_sql.proofs.TableLemmas.{Gives, and_gives, done, fails, own_or_select}
use Rattle.lpis_register_sql.proofs.WriteLemmas.{did_not_stop, same_value}
use Rattle.lpis_register_sql.specs.Hiding.{hides_table, is_table_name, table_names}
use Rattle.lpis_register_sql.specs.Presence.{has_table}
use Rattle.lpis_register_sql.specs.StoredTables.{Formats, Lines, Lives, Marks, Spans, StoredTable, Texts, Years, name_of}

-- ---- what the text of such a statement is compiled to

-- the command makes a table; or it does nothing, since something has the name
abbrev IsMakingCommand : Schema → List ℕ → Command → Type 0
IsMakingCommand s name command.CreateTable = ⊤
IsMakingCommand s name command.Nothing = is_some (option_or (table_named s name) (view_named s name)) ≡ true
IsMakingCommand s name _ = ⊥

-- the name is free, or is that of something that is there
abbrev IsFreeOr : Option ℕ → Bool → Type 0
IsFreeOr same true = ⊤
IsFreeOr same false = is_some same ≡ true

module _ {A : Type 0} (P : A → Type 0) where
  gives_if : (b : Bool) {x y : Checked A} → Gives P x → Gives P y → Gives P (if b then x else y)
  gives_if true one two = one
  gives_if false one two = two

  gives_then : {B : Type 0} (Q : B → Type 0) (r : Checked B) (f : B → Checked A) → Gives Q r → ((b : B) → Q b → Gives P (f b)) → Gives P (and_then r f)
  gives_then Q (Ok b) f h k = k b (h.gives b refl)
  gives_then Q (Err e) f h k = fails P e

free_or_there : (name : List ℕ) (same other : Option ℕ) → Gives (IsFreeOr same) (creates true name same other)
unfolding creates
free_or_there name same other = gives_if (IsFreeOr same) (is_reserved name) (fails (IsFreeOr same) _) (gives_if (IsFreeOr same) (is_some other) (fails (IsFreeOr same) _) (by same))
  where
    by : (same : Option ℕ) → Gives (IsFreeOr same) (if is_some same then Ok false else Ok true)
    by None = done (IsFreeOr None) true tt
    by (Some at) = done (IsFreeOr (Some at)) false refl

create_makes : (s : Schema) (formats : List (List ℕ)) (def : CreateTable) → def.if_missing ≡ true → Gives (IsMakingCommand s def.name) (create_table s formats def)
unfolding create_table
create_makes s formats def missing =
    let M = IsMakingCommand s def.name in
    gives_if M (is_attached s def.name) (fails M _)
    (gives_then M (IsFreeOr (option_or (table_named s def.name) (view_named s def.name))) _ _ (rw missing (free_or_there def.name _ _)) new_or_not)
  where
    new_or_not : (is_new : Bool) → IsFreeOr (option_or (table_named s def.name) (view_named s def.name)) is_new → Gives (IsMakingCommand s def.name)
        (if is_new then and_then (define.table formats def) (λ t.
        if length t.computed == length t.stamps.places && not def.resolves then Ok command.CreateTable else Err Unsupported) else Ok command.Nothing)
    new_or_not true h =
        and_gives (IsMakingCommand s def.name) (define.table formats def) _
        (λ t. gives_if (IsMakingCommand s def.name) _ (done (IsMakingCommand s def.name) command.CreateTable tt) (fails (IsMakingCommand s def.name) Unsupported))
    new_or_not false h = done (IsMakingCommand s def.name) command.Nothing h

-- CREATE TABLE IF NOT EXISTS of this name
abbrev pub IsMaking : List ℕ → Statement → Type 0
IsMaking name (written.CreateTable def) = (def.if_missing ≡ true) × (def.name ≡ name)
IsMaking name _ = ⊥

command_makes : (s : Schema) (formats : List (List ℕ)) (base : ℕ) (name : List ℕ) (x : Statement) → IsMaking name x → Gives (IsMakingCommand s name) (command_by s formats base x)
command_makes s formats base name (written.CreateTable def) is = subst (λ n. Gives (IsMakingCommand s n) (create_table s formats def)) is.1 (create_makes s formats def is.0)
command_makes s formats base name _ is = absurd is

shows_nothing : (s : Schema) (base : ℕ) (name : List ℕ) (x : Statement) → IsMaking name x → returning_by s base x ≡ Ok None
shows_nothing s base name (written.CreateTable def) is = refl
shows_nothing s base name _ is = absurd is

-- the name of a table that a text defines
abbrev pub name_in : Checked Table → List ℕ
name_in (Ok t) = t.name
name_in (Err e) = []

-- a text that makes a table of this name, where none is there
pub record IsMakingText (sql name : List ℕ) : Type 0 where
  pub parsed : Parsed
  pub is : first sql ≡ Ok parsed
  pub making : IsMaking name parsed.statement
  pub named : name_in (table_defined_by (slice_range sql parsed.start parsed.end)) ≡ name

-- what it is compiled to
record IsMade (s : Schema) (name : List ℕ) (p : Parsed) (c : Compiled) : Type 0 where
  makes : IsMakingCommand s name c.command
  shows_none : c.returning ≡ None
  starts : c.start ≡ p.start
  ends : c.end ≡ p.end

plan_makes : (s : Schema) (name : List ℕ) (p : Parsed) (formats : List (List ℕ)) (r : Checked Command) → Gives (IsMakingCommand s name) r
    → Gives (IsMade s name p) (and_then {A = List (List ℕ) × (Command × Option Returning)} (and_then {A = Command × Option Returning} (and_then r (λ k. Ok (k, None))) (λ found. Ok (formats, found)))
    (λ plan. Ok (with_command p plan)))
plan_makes s name p formats (Ok k) h = done (IsMade s name p) _ (record { makes = h.gives k refl; shows_none = refl; starts = refl; ends = refl })
plan_makes s name p formats (Err e) h = fails (IsMade s name p) e

compiled_makes : (s : Schema) (sql name : List ℕ) (text : IsMakingText sql name) → Gives (IsMade s name text.parsed) (compiled s sql)
unfolding compiled planned meaning returning command_for
compiled_makes s sql name text =
    let p = text.parsed in
    rw (text.is, shows_nothing s _ name p.statement text.making) (plan_makes s name p _ _ (command_makes s p.formats _ name p.statement text.making))

select_makes : (s : Schema) (name : List ℕ) (k : Command) → is_select k ≡ true → IsMakingCommand s name k → ⊥
select_makes s name (command.Select q names) is h = h
select_makes s name _ is h = cc

makes_where : (s : Schema) (sql name : List ℕ) (text : IsMakingText sql name) (c : Compiled) → understood s sql ≡ Ok c → IsMade s name text.parsed c
makes_where s sql name text c known = elim (own_or_select s sql c known) [
  | inl own ↦ (compiled_makes s sql name text).gives c own
  | inr it ↦ absurd (select_makes listing_schema name c.command it.1 ((compiled_makes listing_schema sql name text).gives c it.0).makes)
]

-- ---- which tables there are

-- none of the register's is gone, `lpis_live` is there where it was, and the views are those
pub record Grows (old new : Schema) : Type 0 where
  pub keeps : (t : StoredTable) → has_table old (name_of t) ≡ true → has_table new (name_of t) ≡ true
  pub lives : has_table new (name_of Lives) ≡ has_table old (name_of Lives)
  pub views : new.views ≡ old.views

-- a schema that is the same
pub grows_same : (old new : Schema) → new ≡ old → Grows old new
grows_same old new same = record {
  keeps = λ t there. subst (λ s. has_table s (name_of t) ≡ true) (sym same) there;
  lives = ap (λ s. has_table s (name_of Lives)) same;
  views = ap (λ (s : Schema). s.views) same;
}

-- so it is over two steps
pub grows_then : (a b c : Schema) → Grows a b → Grows b c → Grows a c
grows_then a b c one two = record { keeps = λ t there. two.keeps t (one.keeps t there); lives = two.lives ∙ one.lives; views = two.views ∙ one.views }

-- and what hides none hides none then
pub hides_still : (old new : Schema) → Grows old new → hides_table old ≡ false → hides_table new ≡ false
hides_still old new grows none = ap (list_any (λ v. is_table_name v.name)) grows.views ∙ none

-- a table that is made stands behind the others
has_created : (s : Schema) (t : Table) (name : List ℕ) → has_table (created s t) name ≡ (has_table s name || (same_name t.name name || false))
has_created s t name = list_any-append (λ t. same_name t.name name) s.tables _

or_left : (a b : Bool) → a ≡ true → (a || b) ≡ true
or_left true b is = refl
or_left false b is = absurd cc

or_right : (a b : Bool) → b ≡ true → (a || b) ≡ true
or_right true b is = refl
or_right false b is = is

or_none : (a b : Bool) → b ≡ false → (a || b) ≡ a
or_none true b is = refl
or_none false b is = is

created_grows : (s : Schema) (t : Table) → same_name t.name (name_of Lives) ≡ false → Grows s (created s t)
created_grows s t other = record {
  keeps = λ u there. has_created s t (name_of u) ∙ or_left (has_table s (name_of u)) _ there;
  lives = has_created s t (name_of Lives) ∙ or_none (has_table s (name_of Lives)) _ (or_none (same_name t.name (name_of Lives)) false refl ∙ other);
  views = refl;
}

has_new : (s : Schema) (t : Table) (name : List ℕ) → same_name t.name name ≡ true → has_table (created s t) name ≡ true
has_new s t name is = has_created s t name ∙ or_right (has_table s name) _ (or_left (same_name t.name name) false is)

-- ---- what a statement that makes a table leaves

-- the name of a table that a text defines is this
name_is : (text name : List ℕ) (t : Table) → name_in (table_defined_by text) ≡ name → table_defined_by text ≡ Ok t → t.name ≡ name
name_is text name t named is = sym (ap name_in is) ∙ named

sequence_name : name_in (table_defined_by sequence_text) ≡ codes "sqlite_sequence"
unfolding everything
sequence_name = refl

apart : same_name (codes "sqlite_sequence") (name_of Lives) ≡ false
unfolding same_name
apart = refl

module _ (t : StoredTable) (other : same_name (name_of t) (name_of Lives) ≡ false) (itself : same_name (name_of t) (name_of t) ≡ true) where
  -- another may be made, which counts for tables with AUTOINCREMENT
  grows_on : (db after : Database) → MatchBool (lacks_sequence db.schema) (MakesTable sequence_text db (Ok after)) (◌≡◌ {A = Result Database (Option Error)} (Ok after) (Ok db))
      → Grows db.schema after.schema
  grows_on db after h = elim (cases_Bool (lacks_sequence db.schema)) [
    | inl lacks ↦ by_made (rw lacks at h)
    | inr has ↦ grows_same db.schema after.schema (ap (λ (d : Database). d.schema) (same_value (rw has at h)))
  ]
    where
      by_made : MakesTable sequence_text db (Ok after) → Grows db.schema after.schema
      by_made it = subst (Grows db.schema) (sym it.is)
          (created_grows db.schema it.table (ap (λ n. same_name n (name_of Lives)) (name_is sequence_text (codes "sqlite_sequence") it.table sequence_name it.defined) ∙ apart))

  -- it has the table afterwards
  makes_grow : (limit : Option ℕ) (mode : Mode) (params : Row) (db : Database) (text : List ℕ) (shown : Option Returning) (tally : Tally) (after : Database)
      → shown ≡ None → name_in (table_defined_by text) ≡ name_of t → Does limit mode params db text shown command.CreateTable (Ok (tally, after))
      → Grows db.schema after.schema × (has_table after.schema (name_of t) ≡ true)
  makes_grow limit mode params db text (Some what) tally after none named h = absurd cc
  makes_grow limit mode params db text None tally after none named h =
      let all = did_not_stop h in
      let first = did_not_stop all.1 in
      let it = first.1 in
      let same : it.table.name ≡ name_of t = name_is text (name_of t) it.table named it.defined in
      let now : after ≡ all.0 = ap (λ (p : Tally × Database). p.1) (same_value all.2) in
      let one : Grows db.schema first.0.schema = subst (Grows db.schema) (sym it.is) (created_grows db.schema it.table (ap (λ n. same_name n (name_of Lives)) same ∙ other)) in
      let two : Grows first.0.schema after.schema = subst (λ (d : Database). Grows first.0.schema d.schema) (sym now) (grows_on first.0 all.0 first.2) in
      let there : has_table first.0.schema (name_of t) ≡ true = subst (λ s. has_table s (name_of t) ≡ true) (sym it.is)
      (has_new db.schema it.table (name_of t) (ap (λ n. same_name n (name_of t)) same ∙ itself)) in
      (grows_then db.schema first.0.schema after.schema one two, two.keeps t there)

-- a database that a statement leaves so, sound where it was
pub record Goes (a b : State) : Type 0 where
  pub grows : Grows a.now.schema b.now.schema
  pub sound : IsDatabase a.now → IsDatabase b.now

-- a database that is the same
pub goes_same : (a b : State) → b.now ≡ a.now → Goes a b
goes_same a b same = record { grows = grows_same a.now.schema b.now.schema (ap (λ (d : Database). d.schema) same); sound = λ is. subst IsDatabase (sym same) is }

-- and one over two steps
pub goes_then : (a b c : State) → Goes a b → Goes b c → Goes a c
goes_then a b c one two = record { grows = grows_then a.now.schema b.now.schema c.now.schema one.grows two.grows; sound = λ is. two.sound (one.sound is) }

some_of_two : (x y : Option ℕ) → is_some (option_or x y) ≡ true → (is_some x ≡ true) ⊎ (is_some y ≡ true)
some_of_two None y is = inr is
some_of_two (Some at) y is = inl refl

placed : {X : Type 0} (p q : X → Bool) → ((x : X) → p x ≡ true → q x ≡ true) → (from : ℕ) (xs : List X) → is_some (position_from p from xs) ≡ true → list_any q xs ≡ true
placed p q so from [] is = absurd cc
placed p q so from (x ∷ xs) is = elim (cases_Bool (p x)) [
  | inl here ↦ or_left (q x) (list_any q xs) (so x here)
  | inr other ↦ or_right (q x) (list_any q xs) (placed p q so (from + 1) xs (rw other at is))
]

any_of : {X : Type 0} (p : X → Bool) (xs : List X) (x : X) → Has xs x → p x ≡ true → list_any p xs ≡ true
any_of p [] x h is = absurd h
any_of p (y ∷ xs) x (inl same) is = or_left (p y) (list_any p xs) (ap p (sym same) ∙ is)
any_of p (y ∷ xs) x (inr more) is = or_right (p y) (list_any p xs) (any_of p xs x more is)

among_names : (t : StoredTable) → Has table_names (name_of t)
among_names Formats = inl refl
among_names Years = inr (inl refl)
among_names Spans = inr (inr (inl refl))
among_names Lives = inr (inr (inr (inl refl)))
among_names Lines = inr (inr (inr (inr (inl refl))))
among_names Texts = inr (inr (inr (inr (inr (inl refl)))))
among_names Marks = inr (inr (inr (inr (inr (inr (inl refl))))))

-- a name of one of the register's tables
own_name : (t : StoredTable) (name : List ℕ) → same_name name (name_of t) ≡ true → is_table_name name ≡ true
own_name t name is = any_of (same_name name) table_names (name_of t) (among_names t) is

module _ (t : StoredTable) (other : same_name (name_of t) (name_of Lives) ≡ false) (itself : same_name (name_of t) (name_of t) ≡ true) (a b : State) (seen : hides_table a.now.schema ≡ false) where
  -- it goes so far, and the table is there
  abbrev pub HasMade : Type 0
  HasMade = Goes a b × (has_table b.now.schema (name_of t) ≡ true)

  found_there : is_some (option_or (table_named a.now.schema (name_of t)) (view_named a.now.schema (name_of t))) ≡ true → has_table a.now.schema (name_of t) ≡ true
  found_there is = elim (some_of_two (table_named a.now.schema (name_of t)) (view_named a.now.schema (name_of t)) is) [
    | inl table ↦ placed (λ x. same_name x.name (name_of t)) (λ x. same_name x.name (name_of t)) (λ x h. h) 0 a.now.schema.tables table
    | inr view ↦ absurd (let hidden : hides_table a.now.schema ≡ true = placed (λ v. same_name v.name (name_of t)) (λ v. is_table_name v.name) (λ v. own_name t v.name) 0 a.now.schema.views view in
        true≢false (sym hidden ∙ seen))
  ]

  runs_make : (shown : Option Returning) (k : Command) (text : List ℕ) (params : Row) (count : ℕ) → name_in (table_defined_by text) ≡ name_of t → shown ≡ None
      → IsMakingCommand a.now.schema (name_of t) k → Runs a b shown k text params count → HasMade
  runs_make shown command.CreateTable text params count named none makes h =
      let it = makes_grow t other itself a.step_limit (mode_of a) params a.now text shown h.tally b.now none named h.changed in (record { grows = it.0; sound = λ is. h.sound }, it.1)
  runs_make shown command.Nothing text params count named none makes h =
      let same = h.0.0.now_is in (goes_same a b same, subst (λ (d : Database). has_table d.schema (name_of t) ≡ true) (sym same) (found_there makes))
  runs_make shown _ text params count named none makes h = absurd makes

  alone_makes : (sql : List ℕ) (text : IsMakingText sql (name_of t)) (c : Compiled) (params : Row) (count : ℕ) → IsMade a.now.schema (name_of t) text.parsed c
      → RunsAlone false a b sql c params (Ok count) → HasMade
  alone_makes sql text c params count made h = elim (cases_Bool (shows_rows false c)) [
    | inl shows ↦ absurd (let e = (rw shows at h).0 in cc)
    | inr runs ↦ runs_make c.returning c.command (text_of sql c) params count
        (ap (λ (n : ℕ). name_in (table_defined_by (slice_range sql n c.end))) made.starts
        ∙ ap (λ (n : ℕ). name_in (table_defined_by (slice_range sql text.parsed.start n))) made.ends ∙ text.named) made.shows_none made.makes (rw runs at h)
  ]

  -- where it ran, the table is there
  pub executed_makes : (sql : List ℕ) (values : Row) (count : ℕ) → IsMakingText sql (name_of t) → ExecutesInside 0 sql values a b (Ok count) → HasMade
  unfolding ExecutesIn
  executed_makes sql values count text h = let run = h.0 in alone_makes sql text run.0 _ count (makes_where a.now.schema sql (name_of t) text run.0 run.1.is) run.2
