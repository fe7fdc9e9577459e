-- Tables of version 3, made of those that were found: they are all there, in any schema.
use Rattle.std.proofs.Common.{◌≡◌, refl, ◌∙◌, ap, sym, subst, [], ◌∷◌, ◌++◌, List, ℕ, true, false, Bool, Ok}
use Rattle.std.proofs.Common.{Err, Result, inl, inr, IsTrue, OnOk, map}
use Rattle.std.specs.List.{AllByRecursion}
use Rattle.sqlite.specs.Effect.{IsDatabase}
use Rattle.sqlite.specs.Held.{Held, state}
use Rattle.sqlite.specs.State.{HasCleanDisk}
use Rattle.sqlite.specs.declared.error.Error.{Error}
unfoldable use Rattle.sqlite_resolve.specs.Compile.{first}
use Rattle.sqlite_rules.specs.Lists.{Has}
use Rattle.sqlite_schema.specs.Names.{same_name}
use Rattle.sqlite_schema.specs.declared.schema.Schema.{Schema}
use Rattle.sqlite_tied.specs.Compute.{everything}
use Rattle.sqlite_trees.specs.declared.store.Store as store
use Rattle.lpis_register_rows.specs.Content.{StoredSpan}
use Rattle.lpis_register_rows.specs.declared.version.Version.{Version}
use Rattle.lpis_register_rows.specs.declared.version.Version.TheVariants.{First, Second, Third}
use Rattle.lpis_register_sql.proofs.NamedLemmas.{each_table}
use Rattle.lpis_register_sql.proofs.TableLemmas.{IsRowStatement, IsRowText, done, executed_keeps, writing}
use Rattle.lpis_register_sql.specs.Hiding.{hides_table}
use Rattle.lpis_register_sql.specs.Presence.{AreThere, completed, has_table}
use Rattle.lpis_register_sql.specs.Making.{completing_statements, lives_emptied, settling_statements, spans_in_place, unless, version_in_place, whole_span_statement}
use Rattle.lpis_register_sql.specs.Statements.{clear_live, clear_mark, clear_span, clear_text, insert_format, insert_whole_span, set_version}
use Rattle.lpis_register_sql.specs.Statements.{make_format, make_mark, make_release, make_row, make_span, make_text}
use Rattle.lpis_register_sql.specs.StoredTables.{Formats, Lines, Lives, Marks, Spans, StoredTable, Texts, Years, is_read, name_of}
use Rattle.lpis_register_sql.specs.Stopping.{BoundStatement, Ran}
use Rattle.lpis_register_sql.specs.Within.{HasTables, Makes}
use Rattle.lpis_register_sql.specs.declared.found.Found.{Found}
use Rattle.lpis_register_sql.proofs.CreatingLemmas.{Goes, IsMakingText, executed_makes, goes_same, goes_then, grows_same, hides_still}

-- ---- the texts

format_text : IsMakingText make_format (name_of Formats)
unfolding everything
format_text = record { parsed = _; is = refl; making = (refl, refl); named = refl }

release_text : IsMakingText make_release (name_of Years)
unfolding everything
release_text = record { parsed = _; is = refl; making = (refl, refl); named = refl }

span_text : IsMakingText make_span (name_of Spans)
unfolding everything
span_text = record { parsed = _; is = refl; making = (refl, refl); named = refl }

row_text : IsMakingText make_row (name_of Lines)
unfolding everything
row_text = record { parsed = _; is = refl; making = (refl, refl); named = refl }

text_text : IsMakingText make_text (name_of Texts)
unfolding everything
text_text = record { parsed = _; is = refl; making = (refl, refl); named = refl }

mark_text : IsMakingText make_mark (name_of Marks)
unfolding everything
mark_text = record { parsed = _; is = refl; making = (refl, refl); named = refl }

-- ---- the texts of statements that write rows

module _ (s : Schema) where
  format_row_text : IsRowText s insert_format
  unfolding everything
  format_row_text = writing s insert_format _ refl refl

  whole_span_row_text : IsRowText s insert_whole_span
  unfolding everything
  whole_span_row_text = writing s insert_whole_span _ refl refl

  clear_span_row_text : IsRowText s clear_span
  unfolding everything
  clear_span_row_text = writing s clear_span _ refl refl

  clear_live_row_text : IsRowText s clear_live
  unfolding everything
  clear_live_row_text = writing s clear_live _ refl refl

  clear_text_row_text : IsRowText s clear_text
  unfolding everything
  clear_text_row_text = writing s clear_text _ refl refl

  clear_mark_row_text : IsRowText s clear_mark
  unfolding everything
  clear_mark_row_text = writing s clear_mark _ refl refl

  set_version_row_text : IsRowText s set_version
  unfolding everything
  set_version_row_text = writing s set_version _ refl refl

-- ---- statements in turn

module _ {S : Type 0} (g : store.Ghosts S) where
  ran_parts : (xs ys : List BoundStatement) (a c : Held S) → Ran g (xs ++ ys) a c → (b : Held S) × Ran g xs a b × Ran g ys b c
  ran_parts [] ys a c ran = (a, refl, ran)
  ran_parts (x ∷ xs) ys a c (mid, count, one, same, more) = let parts = ran_parts xs ys mid c more in (parts.0, (mid, count, one, same, parts.1), parts.2)

  -- those that write rows make and drop no table
  rows_keep_tables : (xs : List BoundStatement) → AllByRecursion IsRowStatement xs → (a b : Held S) → Ran g xs a b
      → ((state g b).now.schema ≡ (state g a).now.schema) × (IsDatabase (state g a).now → IsDatabase (state g b).now)
  rows_keep_tables [] all a b ran = (ap (λ h. (state g h).now.schema) (sym ran), subst (λ h. IsDatabase (state g h).now) ran)
  rows_keep_tables (x ∷ xs) all a b (mid, count, one, same, more) =
      let kept = executed_keeps (state g a) (state g mid) x.sql x.values count (all.0 a.schema) one in
      let rest = rows_keep_tables xs all.1 mid b more in
      (rest.0 ∙ kept.0, λ is. rest.1 kept.1)

  -- the tables that were there stay, these are there, and nothing hides one
  record Reaches (done : List StoredTable) (a b : Held S) : Type 0 where
    goes : Goes (state g a) (state g b)
    there : (t : StoredTable) → Has done t → has_table (state g b).now.schema (name_of t) ≡ true
    seen : hides_table (state g b).now.schema ≡ false

  reaches_on : (done : List StoredTable) (a b c : Held S) → Reaches done a b → Goes (state g b) (state g c) → Reaches done a c
  reaches_on done a b c so more = record {
    goes = goes_then (state g a) (state g b) (state g c) so.goes more;
    there = λ t has. more.grows.keeps t (so.there t has);
    seen = hides_still (state g b).now.schema (state g c).now.schema more.grows so.seen;
  }

  with_one : (done : List StoredTable) (t : StoredTable) (a b : Held S) → Reaches done a b → has_table (state g b).now.schema (name_of t) ≡ true → Reaches (t ∷ done) a b
  with_one done t a b so has = record { goes = so.goes; there = by; seen = so.seen }
    where
      by : (u : StoredTable) → Has (t ∷ done) u → has_table (state g b).now.schema (name_of u) ≡ true
      by u (inl same) = subst (λ u. has_table (state g b).now.schema (name_of u) ≡ true) (sym same) has
      by u (inr more) = so.there u more

  -- a table that was not found is made
  block : (done : List StoredTable) (t : StoredTable) (sql : List ℕ) → same_name (name_of t) (name_of Lives) ≡ false → same_name (name_of t) (name_of t) ≡ true → IsMakingText sql (name_of t)
      → (found : Bool) (a b c : Held S) → Reaches done a b → found ≡ has_table (state g a).now.schema (name_of t) → Ran g (unless found sql) b c → Reaches (t ∷ done) a c
  block done t sql other itself text true a b c so there ran = subst (Reaches (t ∷ done) a) ran (with_one done t a b so (so.goes.grows.keeps t (sym there)))
  block done t sql other itself text false a b c so there (mid, count, one, same, more) =
      let made = executed_makes t other itself (state g b) (state g mid) so.seen sql [] count text one in
      subst (Reaches (t ∷ done) a) more (with_one done t a mid (reaches_on done a b mid so made.0) made.1)

  rows_reach : (done : List StoredTable) (xs : List BoundStatement) → AllByRecursion IsRowStatement xs → (a b c : Held S) → Reaches done a b → Ran g xs b c → Reaches done a c
  rows_reach done xs all a b c so ran =
      let kept = rows_keep_tables xs all b c ran in
      reaches_on done a b c so (record { grows = grows_same (state g b).now.schema (state g c).now.schema kept.0; sound = kept.1 })

  unless_rows : (found : Bool) → AllByRecursion IsRowStatement (unless found insert_format ++ [])
  unless_rows true = tt
  unless_rows false = (format_row_text, tt)

  from_first : (a : Held S) → hides_table (state g a).now.schema ≡ false → Reaches [] a a
  from_first a seen = record { goes = goes_same (state g a) (state g a) refl; there = λ t has. absurd has; seen = seen }

  abbrev all_made : List StoredTable
  all_made = Marks ∷ Texts ∷ Lines ∷ Spans ∷ Years ∷ Formats ∷ []

  -- so all are made that were not found
  completing_reaches : (found : Found) (a b : Held S) → AreThere (state g a).now.schema found → hides_table (state g a).now.schema ≡ false
      → Ran g (completing_statements found) a b → Reaches all_made a b
  unfolding same_name
  completing_reaches found a b there seen ran =
      let one = ran_parts (unless found.format make_format) _ a b ran in
      let two = ran_parts (unless found.years make_release) _ one.0 b one.2 in
      let three = ran_parts (unless found.spans make_span) _ two.0 b two.2 in
      let four = ran_parts (unless found.lines make_row) _ three.0 b three.2 in
      let five = ran_parts (unless found.texts make_text) _ four.0 b four.2 in
      let six = ran_parts (unless found.marks make_mark) _ five.0 b five.2 in
      let formats = block [] Formats make_format refl refl format_text found.format a a one.0 (from_first a seen) (there Formats) one.1 in
      let years = block _ Years make_release refl refl release_text found.years a one.0 two.0 formats (there Years) two.1 in
      let spans = block _ Spans make_span refl refl span_text found.spans a two.0 three.0 years (there Spans) three.1 in
      let lines = block _ Lines make_row refl refl row_text found.lines a three.0 four.0 spans (there Lines) four.1 in
      let texts = block _ Texts make_text refl refl text_text found.texts a four.0 five.0 lines (there Texts) five.1 in
      let marks = block _ Marks make_mark refl refl mark_text found.marks a five.0 six.0 texts (there Marks) six.1 in
      rows_reach all_made (unless found.format insert_format ++ []) (unless_rows found.format) a six.0 b marks six.2

  -- those of version 3 are there, and `lpis_live` where it was
  completed_there : (found : Found) (a b : Held S) → AreThere (state g a).now.schema found → Reaches all_made a b → IsDatabase (state g a).now → HasTables (completed found) (state g b)
  completed_there found a b there so sound = record {
    there = each_table (λ t. is_read (completed found) t ≡ has_table (state g b).now.schema (name_of t)) (sym (so.there Formats (inr (inr (inr (inr (inr (inl refl))))))))
        (sym (so.there Years (inr (inr (inr (inr (inl refl))))))) (sym (so.there Spans (inr (inr (inr (inl refl)))))) (sym (so.there Lines (inr (inr (inl refl)))))
        (there Lives ∙ sym so.goes.grows.lives) (sym (so.there Texts (inr (inl refl)))) (sym (so.there Marks (inl refl)));
    sound = so.goes.sound sound;
  }

  -- ---- the tables of each version

  span_rows : (spans : List StoredSpan) (more : List BoundStatement) → AllByRecursion IsRowStatement more → AllByRecursion IsRowStatement (map whole_span_statement spans ++ more)
  span_rows [] more all = all
  span_rows (s ∷ spans) more all = (whole_span_row_text, span_rows spans more all)

  lives_rows : (found : Found) (lives : Bool) → lives ≡ found.lives → AllByRecursion IsRowStatement (lives_emptied found)
  lives_rows found true is = rw (← is) (clear_live_row_text, tt)
  lives_rows found false is = rw (← is) tt

  version_rows : AllByRecursion IsRowStatement version_in_place
  version_rows = (clear_text_row_text, (clear_mark_row_text, (set_version_row_text, tt)))

  both_rows : (xs ys : List BoundStatement) → AllByRecursion IsRowStatement xs → AllByRecursion IsRowStatement ys → AllByRecursion IsRowStatement (xs ++ ys)
  both_rows [] ys p q = q
  both_rows (x ∷ xs) ys p q = (p.0, both_rows xs ys p.1 q)

  settling_reaches : (version : Version) (found : Found) (spans : List StoredSpan) (a b : Held S) → AreThere (state g a).now.schema found → hides_table (state g a).now.schema ≡ false
      → Ran g (settling_statements version found spans) a b → Reaches all_made a b
  settling_reaches First found spans a b there seen ran =
      let one = ran_parts (completing_statements found) _ a b ran in
      rows_reach all_made (spans_in_place found spans ++ version_in_place)
      (both_rows (spans_in_place found spans) version_in_place (clear_span_row_text, span_rows spans (lives_emptied found) (lives_rows found found.lives refl)) version_rows)
      a one.0 b (completing_reaches found a one.0 there seen one.1) one.2
  settling_reaches Second found spans a b there seen ran =
      let one = ran_parts (completing_statements found) _ a b ran in
      rows_reach all_made version_in_place version_rows a one.0 b (completing_reaches found a one.0 there seen one.1) one.2
  settling_reaches Third found spans a b there seen ran = completing_reaches found a b there seen ran

  -- settling leaves the tables of version 3
  pub settled_tables : (version : Version) (found : Found) (spans : List StoredSpan) (a b : Held S) (r : Result (Unit {0}) Error) → Makes g (settling_statements version found spans) a b r
      → HasCleanDisk (state g b) → IsTrue (state g a).is_open → IsTrue a.in_transaction → AreThere (state g a).now.schema found → hides_table (state g a).now.schema ≡ false
      → IsDatabase (state g a).now → OnOk r (HasTables (completed found) (state g b))
  settled_tables version found spans a b (Err e) made clean up within there seen sound = tt
  settled_tables version found spans a b (Ok x) made clean up within there seen sound =
      completed_there found a b there (settling_reaches version found spans a b there seen (made.ends clean up within)) sound
