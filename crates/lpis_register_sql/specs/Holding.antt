-- Rows as the queries of the register's tables show them, and as its statements write them.
use Rattle.std.specs.Prelude.{[], ◌∷◌}
use Rattle.sqlite.specs.declared.types.Value.TheVariants.{Int, Text}
use Rattle.sqlite.specs.Order.{Row}
use Rattle.lpis_register_rows.specs.Content.{StoredSpan, Line, Live, StoredText, Mark}

abbrev pub span_row : StoredSpan → Row
span_row s = Text s.id ∷ Int s.since ∷ Int s.until ∷ []

abbrev pub line_row : Line → Row
line_row l = Int l.year ∷ Int l.position ∷ Text l.old ∷ Text l.new ∷ []

abbrev pub live_row : Live → Row
live_row l = Int l.year ∷ Text l.id ∷ []

abbrev pub text_row : StoredText → Row
text_row t = Text t.id ∷ Text t.wkt ∷ []

abbrev pub mark_row : Mark → Row
mark_row m = Int m.year ∷ Int m.position ∷ []
