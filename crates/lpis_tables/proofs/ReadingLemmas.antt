-- A table's reader, a row at a time.
use Rattle.std.proofs.Common.{◌≡◌, ◌≢◌, ◌+◌, ◌<◌, ◌≤◌, ℕ, zero, suc, List, [], ◌∷◌, length, get_or, Some, None, Ok, Err, true, false, refl, ap, arith, ◌==◌, nat_lt}
use Rattle.std.proofs.Common.{Bor, Option, is_some, map, option_map, unwrap_or}
use Rattle.lpis_tables.proofs.Common.{nat_tests, default_config, strip_bom, Table, TableFault, At, Answers, Fields, Reading, field_at_place, has_mark, picked, under_header}
use Rattle.csv.specs.Reading.{records}
use Rattle.lpis_tables.proofs.ColumnLemmas.{without-mark}
use Rattle.lpis_tables.specs.declared.fault.TableCode.TheVariants.{NotCsv, TooManyRows}
use Rattle.lpis_tables.specs.declared.fault.TableFault.TheVariants.{Memory}
use Rattle.lpis_tables.specs.private.Columns.{NamesColumn}
use Rattle.lpis_tables.specs.Table.{Record, fault_at, has_column, most_rows, optional_field, reading, rows_from, stopped, table_of, wanted_places, with_row}

rows-read-next : (table : Table) (w : ℕ) (places : List (Option ℕ)) (n : ℕ) (r : Record) (rs : List Record) → length r ≡ w → n ≤ most_rows
    → rows_from table w places n (r ∷ rs) ≡ with_row (picked places r) (rows_from table w places (n + 1) rs)
unfolding rows_from
rows-read-next table w places n r rs l h =
    let len : (length r == w) ≡ true = grind (arith, nat_tests) in
    let few : nat_lt 200000 n ≡ false = grind (arith, nat_tests) in
    rw (len, few) refl

rows-many : (table : Table) (w : ℕ) (places : List (Option ℕ)) (n : ℕ) (r : Record) (rs : List Record) → length r ≡ w → most_rows < n
    → rows_from table w places n (r ∷ rs) ≡ stopped (fault_at TooManyRows table n)
unfolding rows_from
rows-many table w places n r rs l h =
    let len : (length r == w) ≡ true = grind (arith, nat_tests) in
    let many : nat_lt 200000 n ≡ true = grind (arith, nat_tests) in
    rw (len, many) refl

rows-odd : (table : Table) (w : ℕ) (places : List (Option ℕ)) (n : ℕ) (r : Record) (rs : List Record) → length r ≢ w
    → rows_from table w places n (r ∷ rs) ≡ stopped (fault_at NotCsv table n)
unfolding rows_from
rows-odd table w places n r rs l =
    let len : (length r == w) ≡ false = grind (arith, nat_tests) in
    rw len refl

-- the end, a stop and a row, from a reading of this row that has these records left
pub next-end : (old : Reading) (table : Table) (w v n : ℕ) (places : List (Option ℕ)) (row : Fields) (left rest : List Record)
    → reading table places n row (rows_from table w places (n + 1) left) ≡ old → left ≡ [] → rest ≡ []
    → (old.rows ≡ []) × (old.stop ≡ None) × ((rows_from table v places (n + 1) rest).rows ≡ []) × ((rows_from table v places (n + 1) rest).stop ≡ None)
unfolding rows_from
next-end old table w v n places row left rest e l k = rw (← e, l, k) (refl, refl, refl, refl)

-- where the next record has another length than the header, no row is left, and the fault of no CSV stops the rows
pub next-odd : (old : Reading) (table : Table) (w n : ℕ) (places : List (Option ℕ)) (row : Fields) (r : Record) (left rs : List Record)
    → reading table places n row (rows_from table w places (n + 1) left) ≡ old → left ≡ r ∷ rs → length r ≢ w
    → (old.rows ≡ []) × (old.stop ≡ Some (fault_at NotCsv table (n + 1)))
next-odd old table w n places row r left rs e l d = rw (← e, l, rows-odd table w places (n + 1) r rs d) (refl, refl)

-- where a record as long as the header follows the most rows, no row is left, and too many rows is what stops them
pub next-many : (old : Reading) (table : Table) (w n : ℕ) (places : List (Option ℕ)) (row : Fields) (r : Record) (left rs : List Record)
    → reading table places n row (rows_from table w places (n + 1) left) ≡ old → left ≡ r ∷ rs → length r ≡ w → n ≡ most_rows
    → (old.rows ≡ []) × (old.stop ≡ Some (fault_at TooManyRows table (n + 1)))
next-many old table w n places row r left rs e l d m = rw (← e, l, rows-many table w places (n + 1) r rs d (omega arith)) (refl, refl)

-- where a record as long as the header follows fewer rows than the most, its wanted fields are the next row
pub next-row : (old : Reading) (table : Table) (w v n : ℕ) (places : List (Option ℕ)) (row : Fields) (r : Record) (left rs : List Record)
    → reading table places n row (rows_from table w places (n + 1) left) ≡ old → left ≡ r ∷ rs → length r ≡ w → v ≡ w → n < most_rows
    → (old.rows ≡ picked places r ∷ (rows_from table v places (n + 1 + 1) rs).rows) × ((rows_from table v places (n + 1 + 1) rs).stop ≡ old.stop)
    × (n + 1 ≡ old.number + 1) × (table ≡ old.table) × (n + 1 ≤ most_rows) × (map is_some places ≡ old.has)
next-row old table w v n places row r left rs e l d same m =
    rw (← e, l, rows-read-next table w places (n + 1) r rs d (omega arith), same) (refl, refl, refl, refl, omega arith, refl)

-- the field at the k-th place, and whether there is one
pub field-at : (places : List (Option ℕ)) (fields : Record) (k : ℕ) → optional_field (picked places fields) k ≡ field_at_place fields (get_or places k None)
field-at [] fields k = refl
field-at (p ∷ ps) fields zero = refl
field-at (p ∷ ps) fields (suc k) = field-at ps fields k

-- the header has the k-th wanted column exactly where the column has a place
pub column-at : (places : List (Option ℕ)) (k : ℕ) → has_column (map is_some places) k ≡ is_some (get_or places k None)
column-at [] k = refl
column-at (p ∷ ps) zero = refl
column-at (p ∷ ps) (suc k) = column-at ps k

-- a borrowed text or an empty one is what is said of it, or empty where nothing is said
pub or-empty : (o : Option (Bor (List ℕ))) (d : Bor (List ℕ)) (said : Option (List ℕ)) → d.now ≡ [] → option_map (λ (s : Bor (List ℕ)). s.now) o ≡ said
    → (unwrap_or o d).now ≡ unwrap_or said []
or-empty None d said z e = rw (← e) z
or-empty (Some x) d said z e = rw (← e) refl

-- the fault of a column, as that of the table
pub column-fault : (table : Table) (names further : List (List ℕ)) (header : Record) (rs all : List Record) (told : TableFault)
    → all ≡ header ∷ rs → NamesColumn table (wanted_places header names further) told → Answers (Err told) (under_header table names further all)
column-fault table names further header rs all Memory e t = tt
column-fault table names further header rs all (At code in_table row wkt) e t = rw (e, t.0, t.1) refl

-- a table whose text has a second mark, and one whose text has not
pub table-marked : (table : Table) (names further : List (List ℕ)) (bytes text : List ℕ) → text ≡ strip_bom bytes → has_mark text ≡ true
    → table_of table names further bytes ≡ Err (fault_at NotCsv table 0)
unfolding table_of
table-marked table names further bytes text e m = rw (← e, m) refl

-- the table of a text without a second mark has the first record as its header, and the others below
pub table-unmarked : (table : Table) (names further : List (List ℕ)) (bytes text : List ℕ) → text ≡ strip_bom bytes → has_mark text ≡ false
    → table_of table names further bytes ≡ under_header table names further (records default_config (strip_bom text))
unfolding table_of
table-unmarked table names further bytes text e m =
    rw (← e, m) (ap (λ (t : List ℕ). under_header table names further (records default_config t)) (without-mark text m))

-- where the wanted columns have places, the reading is at row 0, with the rows below the header left
pub header-found : (table : Table) (names further : List (List ℕ)) (header : Record) (rs all : List Record) (places : List (Option ℕ)) (w : ℕ)
    → all ≡ header ∷ rs → wanted_places header names further ≡ Ok places → w ≡ length header
    → under_header table names further all ≡ Ok (reading table places 0 (picked places header) (rows_from table w places 1 rs))
header-found table names further header rs all places w e p l = rw (e, p, l) refl
