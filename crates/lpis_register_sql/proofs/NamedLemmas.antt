-- The names of the tables.
use Rattle.std.proofs.Common.{◌≡◌, ◌||◌, Bool, true, false, refl}
use Rattle.lpis_register_sql.specs.StoredTables.{Formats, Lines, Lives, Marks, Spans, StoredTable, Texts, Years}

-- seven tests in turn are a walk over a list
pub any_of_seven : (a b c d e f g : Bool) → (((((((a || b) || c) || d) || e) || f) || g)) ≡ (a || (b || (c || (d || (e || (f || (g || false)))))))
any_of_seven true b c d e f g = refl
any_of_seven false true c d e f g = refl
any_of_seven false false true d e f g = refl
any_of_seven false false false true e f g = refl
any_of_seven false false false false true f g = refl
any_of_seven false false false false false true g = refl
any_of_seven false false false false false false true = refl
any_of_seven false false false false false false false = refl

-- what holds of each table of the register holds of any
pub each_table : (P : StoredTable → Type 0) → P Formats → P Years → P Spans → P Lines → P Lives → P Texts → P Marks → (t : StoredTable) → P t
each_table P formats years spans lines lives texts marks Formats = formats
each_table P formats years spans lines lives texts marks Years = years
each_table P formats years spans lines lives texts marks Spans = spans
each_table P formats years spans lines lives texts marks Lines = lines
each_table P formats years spans lines lives texts marks Lives = lives
each_table P formats years spans lines lives texts marks Texts = texts
each_table P formats years spans lines lives texts marks Marks = marks
