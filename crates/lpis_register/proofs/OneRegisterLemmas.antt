-- The tables that a database has say one register, in whatever order they stand, and whatever stands beside.
use Rattle.std.proofs.Common.{◌≡◌, ◌∙◌, ◌↔◌, ap, inl, inr, if◌then◌else◌, length, refl, subst, subst₂, sym, take, true, false, true≢false, [], Bool, IsPermutation, List, MatchBool}
use Rattle.std.proofs.lemmas.Bool.{or_parts}
use Rattle.std.proofs.lemmas.List.Sorted.{IsPermutation-map, IsPermutation-refl}
use Rattle.sqlite.specs.Effect.{Database}
use Rattle.sqlite.specs.Order.{Row}
use Rattle.lpis_register_rows.specs.Content.{StoredText, without_texts}
use Rattle.lpis_register_rows.specs.Histories.{IsSameContent, IsSameHistory, only_format}
use Rattle.lpis_register_rows.specs.declared.version.Version.TheVariants.{Second}
use Rattle.lpis_register_sql.specs.Holding.{line_row, live_row, mark_row, span_row, text_row}
use Rattle.lpis_register_sql.specs.Presence.{AreThere, has_table, is_any}
use Rattle.lpis_register_sql.specs.Showing.{AnswersQuery, ShowsRows, ShowsTable, ShowsTexts, format_columns, untold_formats, year_columns}
use Rattle.lpis_register_sql.specs.StoredTables.{Formats, Lines, Lives, Marks, Spans, StoredTable, Texts, Years, is_read, kinds_of, name_of, query_of}
use Rattle.lpis_register_sql.specs.declared.found.Found.{Found}
use Rattle.lpis_register_sql.specs.private.Shown.{format_shown, line_shown, live_shown, mark_shown, span_shown, text_shown, year_shown}
use Rattle.lpis_register.proofs.Common.{Content, Entry, First, Shape, TablesHave, Third, Version}
use Rattle.lpis_register.proofs.AgreeingLemmas.{format_cut, line_cut, live_cut, mark_cut, rows_are, span_cut, text_cut, year_cut}
use Rattle.lpis_register.proofs.OneHistoryLemmas.{One, one_said, same_itself, same_live}
use Rattle.lpis_register.specs.Saying.{SaysHistory, SaysNoHistory, SaysNoShapes, SaysNone, SaysRegister, SaysShapes}
use Rattle.lpis_register_rows.specs.Shapes.{ShapesAre}

-- two answers to the query of a table that is there are the same rows
abbrev OneAnswer : Type 0
OneAnswer = (db : Database) (t : StoredTable) (rows others : List Row) → has_table db.schema (name_of t) ≡ true → AnswersQuery db (query_of t) rows → AnswersQuery db (query_of t) others
    → IsPermutation rows others

-- rows in another order and without the texts say the same histories
abbrev Textless : Type 0
Textless = (version : Version) (c d : Content) (h : List Entry) → IsSameContent (without_texts c) d → TablesHave version c h ↔ TablesHave version d h

-- texts in another order are of the same shapes
abbrev Reordered : Type 0
Reordered = (texts others : List StoredText) (shapes : List Shape) → IsPermutation texts others → ShapesAre texts shapes → ShapesAre others shapes

-- and of no others
abbrev OneList : Type 0
OneList = (texts more : List StoredText) (shapes others : List Shape) → IsPermutation texts more → ShapesAre texts shapes → ShapesAre more others → shapes ≡ others

-- ---- what is shown, twice

module _ (one_answer : OneAnswer) (db : Database) where
  -- a table shows the same rows, or these stand in its place
  same_shown : {X : Type 0} (t : StoredTable) (columns : X → Row) (shown : Row → X) → ((row : Row) → shown (take (length (kinds_of t)) row) ≡ shown row) → ((x : X) → shown (columns x) ≡ x)
      → (base xs ys : List X) (b c : Bool) → b ≡ has_table db.schema (name_of t) → c ≡ has_table db.schema (name_of t)
      → MatchBool b (ShowsTable db t columns xs) (xs ≡ base) → MatchBool c (ShowsTable db t columns ys) (ys ≡ base) → IsPermutation xs ys
  same_shown t columns shown cut back base xs ys true true there too a b =
      let n = length (kinds_of t) in
      subst₂ IsPermutation (rows_are columns shown n cut back a.rows xs a.are) (rows_are columns shown n cut back b.rows ys b.are)
      (IsPermutation-map shown a.rows b.rows (one_answer db t a.rows b.rows (sym there) a.answers b.answers))
  same_shown t columns shown cut back base xs ys false false there too a b = subst₂ IsPermutation (sym a) (sym b) (IsPermutation-refl base)
  same_shown t columns shown cut back base xs ys true false there too a b = absurd (true≢false (there ∙ sym too))
  same_shown t columns shown cut back base xs ys false true there too a b = absurd (true≢false (too ∙ sym there))

  module _ (found more : Found) (first : AreThere db.schema found) (second : AreThere db.schema more) where
    -- the same tables are found
    same_found : (t : StoredTable) → is_read found t ≡ is_read more t
    same_found t = first t ∙ sym (second t)

    same_any : is_any found ≡ is_any more
    same_any = rw (same_found Formats, same_found Years, same_found Spans, same_found Lines, same_found Lives, same_found Texts, same_found Marks) refl

    same_untold : untold_formats more ≡ untold_formats found
    same_untold = ap (λ b. if b then only_format 3 else []) (sym (same_found Spans))

    same_rows : (c d : Content) → ShowsRows found db c → ShowsRows more db d → IsSameContent (without_texts c) (without_texts d)
    same_rows c d a b = record {
      formats = same_shown Formats format_columns format_shown format_cut (λ f. refl) (untold_formats found) c.formats d.formats found.format more.format (first Formats) (second Formats) a.formats_are
          (subst (λ base. MatchBool more.format (ShowsTable db Formats format_columns d.formats) (d.formats ≡ base)) same_untold b.formats_are);
      years = same_shown Years year_columns year_shown year_cut (λ y. refl) [] c.years d.years found.years more.years (first Years) (second Years) a.years_are b.years_are;
      spans = same_shown Spans span_row span_shown span_cut (λ s. refl) [] c.spans d.spans found.spans more.spans (first Spans) (second Spans) a.spans_are b.spans_are;
      lines = same_shown Lines line_row line_shown line_cut (λ l. refl) [] c.lines d.lines found.lines more.lines (first Lines) (second Lines) a.lines_are b.lines_are;
      live = same_shown Lives live_row live_shown live_cut (λ l. refl) [] c.live d.live found.lives more.lives (first Lives) (second Lives) a.live_are b.live_are;
      texts = IsPermutation-refl [];
      marks = same_shown Marks mark_row mark_shown mark_cut (λ m. refl) [] c.marks d.marks found.marks more.marks (first Marks) (second Marks) a.marks_are b.marks_are;
    }

    same_texts : (texts others : List StoredText) → ShowsTexts found db texts → ShowsTexts more db others → IsPermutation texts others
    same_texts texts others = same_shown Texts text_row text_shown text_cut (λ t. refl) [] texts others found.texts more.texts (first Texts) (second Texts)

    -- what is said of one is said of the other
    said_again : Textless → (version : Version) (c d : Content) (h : List Entry) → ShowsRows found db c → ShowsRows more db d → TablesHave version c h → TablesHave version d h
    said_again textless version c d h a b told =
        let less = without_texts d in
        (textless version d less h (same_itself less)).1 ((textless version c less h (same_rows c d a b)).0 told)

    same_shapes : OneList → (version : Version) (h k : List Entry) (shapes others : List Shape) → SaysShapes version found db h shapes → SaysShapes version more db k others → shapes ≡ others
    same_shapes kept First h k shapes others a b = a ∙ sym b
    same_shapes kept Second h k shapes others a b = a ∙ sym b
    same_shapes kept Third h k shapes others a b = kept a.0 b.0 shapes others (same_texts a.0 b.0 a.1 b.1) a.2 b.2

    -- texts that are of these shapes are of some
    shapes_clash : Reordered → (version : Version) (h k : List Entry) (shapes : List Shape) → IsSameHistory h k → SaysShapes version found db h shapes → SaysNoShapes version more db k → ⊥
    shapes_clash reordered First h k shapes same a none = none
    shapes_clash reordered Second h k shapes same a none = none
    shapes_clash reordered Third h k shapes same a none = none.2 (shapes, reordered a.0 none.0 shapes (same_texts a.0 none.0 a.1 none.1) a.2, same_live h k same shapes a.3)

-- ---- what is said, twice

same_empty : IsSameHistory [] []
same_empty = record { lengths = refl; years = λ i. refl; sets = λ i id. refl; rows = λ i. refl }

-- where no table is found, there are none of formats and of spans
neither_found : (found : Found) → is_any found ≡ false → (found.format ≡ false) × (found.spans ≡ false)
neither_found found none =
    let more = or_parts _ found.spans (or_parts _ found.lines (or_parts _ found.lives (or_parts _ found.texts (or_parts _ found.marks none).0).0).0).0 in
    ((or_parts found.format found.years more.0).0, more.1)

-- with no table found there is no version
no_version : (found : Found) (db : Database) (version : Version) (c : Content) (h : List Entry) → is_any found ≡ false → ShowsRows found db c → TablesHave version c h → ⊥
no_version found db version c h none shows told =
    let neither = neither_found found none in
    let untold = subst (λ b. MatchBool b (ShowsTable db Formats format_columns c.formats) (c.formats ≡ untold_formats found)) neither.0 shows.formats_are in
    let empty : c.formats ≡ [] = untold ∙ ap (λ b. if b then only_format 3 else []) neither.1 in
    clash version told empty
  where
    clash : (version : Version) → TablesHave version c h → c.formats ≡ [] → ⊥
    clash First told empty = (let same : [] ≡ only_format 1 = sym empty ∙ told.formats_are in cc)
    clash Second told empty = (let same : [] ≡ only_format 2 = sym empty ∙ told.formats_are in cc)
    clash Third told empty = (let same : [] ≡ only_format 3 = sym empty ∙ told.formats_are in cc)

module _ (one_answer : OneAnswer) (textless : Textless) (one : One) (db : Database) where
  module _ (found more : Found) (first : AreThere db.schema found) (second : AreThere db.schema more) where
    -- rows that both show say one history, in one version
    told_once : (c d : Content) (h k : List Entry) (version other : Version) → ShowsRows found db c → ShowsRows more db d
        → TablesHave version c h → TablesHave other d k → (version ≡ other) × IsSameHistory h k
    told_once c d h k version other a b has too = one_said one d h k version other (said_again one_answer db found more first second textless version c d h a b has) too

    any_agree : is_any found ≡ true → is_any more ≡ false → ⊥
    any_agree some none = true≢false (sym some ∙ same_any one_answer db found more first second ∙ none)

  -- what they say is one register
  pub says_one : OneList → (h k : List Entry) (shapes others : List Shape) → SaysRegister db h shapes → SaysRegister db k others → IsSameHistory h k × (shapes ≡ others)
  says_one kept h k shapes others (found, first, inl a) (more, second, inl b) = (subst₂ IsSameHistory (sym a.1) (sym b.1) same_empty, a.2 ∙ sym b.2)
  says_one kept h k shapes others (found, first, inl a) (more, second, inr b) = absurd (any_agree more found second first b.0 a.0)
  says_one kept h k shapes others (found, first, inr a) (more, second, inl b) = absurd (any_agree found more first second a.0 b.0)
  says_one kept h k shapes others (found, first, inr a) (more, second, inr b) =
      let told = told_once found more first second a.2.content b.2.content h k a.1 b.1 a.2.shown b.2.shown a.2.says b.2.says in
      (told.1, same_shapes one_answer db found more first second kept a.1 h k shapes others a.2.keeps (subst (λ v. SaysShapes v more db k others) (sym told.0) b.2.keeps))

  -- of which the history is what they say of it
  pub says_history : (h k : List Entry) (shapes : List Shape) → SaysHistory db h → SaysRegister db k shapes → IsSameHistory h k
  says_history h k shapes (found, first, content, shown, version, has) (more, second, inl b) =
      absurd (no_version found db version content h (same_any one_answer db found more first second ∙ b.0) shown has)
  says_history h k shapes (found, first, content, shown, version, has) (more, second, inr b) = (told_once found more first second content b.2.content h k version b.1 shown b.2.shown has b.2.says).1

  -- then they do not say none
  pub says_some : Reordered → (h : List Entry) (shapes : List Shape) → SaysRegister db h shapes → SaysNone db → ⊥
  says_some reordered h shapes (found, first, inl a) (more, second, some, refused) = any_agree more found second first some a.0
  says_some reordered h shapes (found, first, inr a) (more, second, some, refused) = elim refused.none [
    | inl never ↦ never a.1 h (said_again one_answer db found more first second textless a.1 a.2.content refused.content h a.2.shown refused.shown a.2.says)
    | inr other ↦ (let told = told_once found more first second a.2.content refused.content h other.1 a.1 other.0 a.2.shown refused.shown a.2.says other.2 in
        shapes_clash one_answer db found more first second reordered a.1 h other.1 shapes told.1 a.2.keeps (subst (λ v. SaysNoShapes v more db other.1) (sym told.0) other.3))
  ]

  -- unless none is there, they do not say no history either
  pub says_unread : (h : List Entry) (shapes : List Shape) → SaysRegister db h shapes → SaysNoHistory db → (found : Found) × AreThere db.schema found × (is_any found ≡ false)
  says_unread h shapes (found, first, inl a) unread = (found, first, a.0)
  says_unread h shapes (found, first, inr a) (more, second, content, shown, none) =
      absurd (none a.1 h (said_again one_answer db found more first second textless a.1 a.2.content content h a.2.shown shown a.2.says))
