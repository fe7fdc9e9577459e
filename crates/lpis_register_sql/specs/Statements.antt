-- The texts of the statements that write.
use Rattle.std.specs.Prelude.{ℕ, List, codes}

-- ---- that write a release

abbrev pub insert_release : List ℕ
insert_release = codes "INSERT INTO lpis_release (year) VALUES (?1)"

abbrev pub insert_span : List ℕ
insert_span = codes "INSERT INTO lpis_span (id, since, until) VALUES (?1, ?2, 0)"

abbrev pub insert_line : List ℕ
insert_line = codes "INSERT INTO lpis_row (year, pos, old, new) VALUES (?1, ?2, ?3, ?4)"

abbrev pub end_span : List ℕ
end_span = codes "UPDATE lpis_span SET until = ?1 WHERE id = ?2"

abbrev pub insert_text : List ℕ
insert_text = codes "INSERT INTO lpis_text (id, wkt) VALUES (?1, ?2)"

abbrev pub replace_text : List ℕ
replace_text = codes "UPDATE lpis_text SET wkt = ?1 WHERE id = ?2"

abbrev pub delete_text : List ℕ
delete_text = codes "DELETE FROM lpis_text WHERE id = ?1"

abbrev pub insert_mark : List ℕ
insert_mark = codes "INSERT INTO lpis_mark (year, pos) VALUES (?1, ?2)"

-- ---- that make the tables

abbrev pub make_format : List ℕ
make_format =
    codes
    "CREATE TABLE IF NOT EXISTS lpis_format (one INTEGER NOT NULL PRIMARY KEY, version INTEGER NOT NULL) STRICT"

abbrev pub make_release : List ℕ
make_release =
    codes "CREATE TABLE IF NOT EXISTS lpis_release (year INTEGER NOT NULL PRIMARY KEY) STRICT"

abbrev pub make_span : List ℕ
make_span =
    codes
    "CREATE TABLE IF NOT EXISTS lpis_span (id TEXT NOT NULL PRIMARY KEY, since INTEGER NOT NULL REFERENCES lpis_release (year), until INTEGER NOT NULL) STRICT"

abbrev pub make_row : List ℕ
make_row =
    codes
    "CREATE TABLE IF NOT EXISTS lpis_row (year INTEGER NOT NULL REFERENCES lpis_release (year), pos INTEGER NOT NULL, old TEXT NOT NULL, new TEXT NOT NULL, PRIMARY KEY (year, pos)) STRICT"

abbrev pub make_text : List ℕ
make_text =
    codes
    "CREATE TABLE IF NOT EXISTS lpis_text (id TEXT NOT NULL PRIMARY KEY, wkt TEXT NOT NULL) STRICT"

abbrev pub make_mark : List ℕ
make_mark =
    codes
    "CREATE TABLE IF NOT EXISTS lpis_mark (year INTEGER NOT NULL, pos INTEGER NOT NULL, PRIMARY KEY (year, pos), FOREIGN KEY (year, pos) REFERENCES lpis_row (year, pos)) STRICT"

abbrev pub insert_format : List ℕ
insert_format = codes "INSERT INTO lpis_format (one, version) VALUES (1, 3)"

-- ---- that move them to version 3

abbrev pub clear_span : List ℕ
clear_span = codes "DELETE FROM lpis_span"

abbrev pub insert_whole_span : List ℕ
insert_whole_span = codes "INSERT INTO lpis_span (id, since, until) VALUES (?1, ?2, ?3)"

abbrev pub clear_live : List ℕ
clear_live = codes "DELETE FROM lpis_live"

abbrev pub clear_text : List ℕ
clear_text = codes "DELETE FROM lpis_text"

abbrev pub clear_mark : List ℕ
clear_mark = codes "DELETE FROM lpis_mark"

abbrev pub set_version : List ℕ
set_version = codes "UPDATE lpis_format SET version = 3"
