-- Whether a database hides a table of the register.
use Rattle.std.specs.Prelude.{ℕ, Bool, [], ◌∷◌, List, map}
use Rattle.std.specs.List.{list_any}
use Rattle.sqlite.specs.Schema.{Schema}
use Rattle.sqlite_schema.specs.Names.{same_name}
use Rattle.lpis_register_sql.specs.StoredTables.{Formats, Lines, Lives, Marks, Spans, Texts, Years}
use Rattle.lpis_register_sql.specs.StoredTables.{name_of}

abbrev pub table_names : List (List ℕ)
table_names =
    map name_of (Formats ∷ Years ∷ Spans ∷ Lives ∷ Lines ∷ Texts ∷ Marks ∷ [])

abbrev pub is_table_name : List ℕ → Bool
is_table_name name = list_any (λ own. same_name name own) table_names

-- something with the name of one is there that no statement can read as a table: a view, or a table
-- that is kept as it is, for a trigger on it or an index of it that SQL here does not understand
abbrev pub hides_table : Schema → Bool
hides_table schema = list_any (λ v. is_table_name v.name) schema.views
