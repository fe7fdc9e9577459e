-- Which of the register's tables a database has.
use Rattle.std.specs.Prelude.{ℕ, Bool, List, true, ◌≡◌, ◌&&◌, ◌||◌}
use Rattle.std.specs.List.{list_any}
use Rattle.sqlite.specs.Schema.{Schema}
use Rattle.sqlite_schema.specs.Names.{same_name}
use Rattle.lpis_register_sql.specs.StoredTables.{StoredTable, is_read, name_of}
use Rattle.lpis_register_sql.specs.declared.found.Found.{Found}

abbrev pub has_table : Schema → List ℕ → Bool
has_table schema name = list_any (λ t. same_name t.name name) schema.tables

-- each table of the register is found where one of its name is there
abbrev pub AreThere : Schema → Found → Type 0
AreThere schema found = (t : StoredTable) → is_read found t ≡ has_table schema (name_of t)

-- one at least is found
abbrev pub is_any : Found → Bool
is_any found =
    (((((found.format || found.years) || found.spans) || found.lines) || found.lives)
    || found.texts) || found.marks

-- each table of version 3 is found
abbrev pub is_whole : Found → Bool
is_whole found =
    ((((found.format && found.years) && found.spans) && found.lines) && found.texts) && found.marks

-- all those of version 3 are found, and `lpis_live` where it was
abbrev pub completed : Found → Found
completed found = record found {
  format = true;
  years = true;
  spans = true;
  lines = true;
  texts = true;
  marks = true;
}
