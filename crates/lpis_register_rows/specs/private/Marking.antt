-- Lines that get their marks: machinery, which only private contracts cite.
use Rattle.std.specs.Prelude.{◌&&◌, ◌∷◌, [], Bool, false, cond, if◌then◌else◌, List}
use Rattle.std.specs.Ordering.{int_cmp, int_eq, ordering_then}
use Rattle.std.specs.declared.cmp.Ordering.{Ordering}
use Rattle.lpis_register_rows.specs.declared.known.KnownLine.{KnownLine}
use Rattle.lpis_register_rows.specs.Content.{Mark}

-- marks ascend by year, and in it by position
abbrev pub mark_cmp : Mark → Mark → Ordering
mark_cmp a b = ordering_then (int_cmp a.year b.year) (int_cmp a.position b.position)

-- the mark names the line
abbrev pub marks_line : Mark → KnownLine → Bool
marks_line m l = int_eq m.year l.year && int_eq m.position l.position

-- the next mark, where there is one, names the line
abbrev pub is_next : List Mark → KnownLine → Bool
is_next [] l = false
is_next (m ∷ ms) l = marks_line m l

abbrev pub marked : Bool → KnownLine → KnownLine
marked b l = record l { row = record l.row { exact = b } }

-- the marks after the next one
abbrev pub later : List Mark → List Mark
later [] = []
later (m ∷ ms) = ms

-- the lines, each marked where the next mark names it
abbrev pub walked : List Mark → List KnownLine → List KnownLine
walked ms [] = []
walked ms (l ∷ ls) =
    marked (is_next ms l) l ∷ walked (cond (is_next ms l) (later ms) ms) ls

-- the marks that are left then
abbrev pub unused : List Mark → List KnownLine → List Mark
unused ms [] = ms
unused ms (l ∷ ls) = unused (cond (is_next ms l) (later ms) ms) ls

abbrev pub line_mark : KnownLine → Mark
line_mark l = record { year = l.year; position = l.position }

-- the marks of the lines that are marked
abbrev pub marks_in : List KnownLine → List Mark
marks_in [] = []
marks_in (l ∷ ls) = if l.row.exact then line_mark l ∷ marks_in ls else marks_in ls
