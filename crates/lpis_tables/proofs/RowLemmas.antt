-- Reading rows as values, a row at a time.
use Rattle.std.proofs.Common.{◌≡◌, ◌≤◌, ◌+◌, ◌++◌, ◌∷◌, [], ℕ, List, length, map, Bool, true, false, Option, Result, Ok, Err, refl, sym, ap, ◌∙◌, arith, append_assoc, option_to_list}
use Rattle.lpis_tables.proofs.Common.{default_config, strip_bom, Table, TableFault, At, unless_faulty, Answers, Fields, Reading, field_of, has_mark, picked, under_header}
use Rattle.std.proofs.lemmas.List.{append-nil, map-append, length-append}
use Rattle.std.specs.Result.{result_map_both}
use Rattle.csv.specs.Reading.{records}
use Rattle.lpis_tables.specs.declared.fault.TableCode.{TableCode}
use Rattle.lpis_tables.specs.declared.fault.TableFault.TheVariants.{Memory}
use Rattle.lpis_tables.specs.Faults.{RowsOf, key_faults, table_row_faults, values_of}
use Rattle.lpis_tables.specs.Table.{Advances, Record, fault_at, most_rows, reading, rows_from, table_of, wanted_places}

-- a reader of the table t has read these rows, with these keys, and no fault yet
pub record IsRead {A : Type 0} (kind : RowsOf A) (t : Reading) (keys : List (List ℕ)) (rows : List A) (r : Reading) : Type 0 where
  pub table : r.table ≡ kind.table
  pub count : r.number ≡ length rows
  pub few : r.number ≤ most_rows
  pub enough : kind.enough t.has ≡ true
  pub faults : table_row_faults kind keys (r.number + 1) r.rows ++ option_to_list r.stop ≡ table_row_faults kind [] 1 t.rows ++ option_to_list t.stop
  pub values : rows ++ map kind.value r.rows ≡ map kind.value t.rows

-- what a value or a fault says of the list of faults
told-value : {A : Type 0} (fs : List TableFault) (v x : A) → unless_faulty fs v ≡ Ok x → (fs ≡ []) × (v ≡ x)
told-value [] v x h = (refl, cc h)
told-value (f ∷ fs) v x h = cc h

told-fault : {A B : Type 0} (fs more : List TableFault) (v : A) (w : B) (f : TableFault) → unless_faulty fs v ≡ Err f → unless_faulty (fs ++ more) w ≡ Err f
told-fault [] more v w f h = cc h
told-fault (g ∷ fs) more v w f h = ap Err (cc h)

-- the header's table and number
start-header : (table : Table) (header : Record) (rs : List Record) (places : Result (List (Option ℕ)) TableCode) (t : Reading)
    → result_map_both (λ ps. reading table ps 0 (picked ps header) (rows_from table (length header) ps 1 rs)) (λ code. fault_at code table 0) places ≡ Ok t → (t.table ≡ table) × (t.number ≡ 0)
start-header table header rs (Ok ps) t h = let e = Ok-parts _ t h in (sym (ap (λ (r : Reading). r.table) e), sym (ap (λ (r : Reading). r.number) e)) where
  Ok-parts : (s t : Reading) → ◌≡◌ {A = Result Reading TableFault} (Ok s) (Ok t) → s ≡ t
  Ok-parts s t h = cc h
start-header table header rs (Err code) t h = cc h

start-records : (table : Table) (names further : List (List ℕ)) (all : List Record) (t : Reading) → under_header table names further all ≡ Ok t → (t.table ≡ table) × (t.number ≡ 0)
start-records table names further [] t h = cc h
start-records table names further (header ∷ rs) t h = start-header table header rs (wanted_places header names further) t h

-- an opened table is read up to its header
pub table-start : (table : Table) (names further : List (List ℕ)) (bytes : List ℕ) (t : Reading) → table_of table names further bytes ≡ Ok t → (t.table ≡ table) × (t.number ≡ 0)
unfolding table_of
table-start table names further bytes t h = by (has_mark (strip_bom bytes)) refl where
  by : (b : Bool) → has_mark (strip_bom bytes) ≡ b → (t.table ≡ table) × (t.number ≡ 0)
  by true e = cc (rw e at h)
  by false e = start-records table names further (records default_config (strip_bom bytes)) t (rw e at h)

-- a table that has columns enough is read up to its header: no row, no key and no fault yet
pub rows-start : {A : Type 0} (kind : RowsOf A) (t : Reading) → t.table ≡ kind.table → t.number ≡ 0 → kind.enough t.has ≡ true → IsRead kind t [] [] t
rows-start kind t table none enough =
    let first : t.number + 1 ≡ 1 = omega arith in
    record { table = table; count = none; few = omega (arith, none); enough = enough; faults = rw first refl; values = refl }

-- one row more
pub rows-step : {A : Type 0} (kind : RowsOf A) (t old new : Reading) (keys : List (List ℕ)) (rows : List A) (x : A)
    → IsRead kind t keys rows old → Advances old new (Ok true) → unless_faulty (kind.faults keys new.number new.row) (kind.value new.row) ≡ Ok x
    → IsRead kind t (keys ++ field_of new.row 0 ∷ []) (rows ++ x ∷ []) new
unfolding table_row_faults
rows-step {A = A} kind t old new keys rows x h a e =
    let v = told-value (kind.faults keys new.number new.row) (kind.value new.row) x e in
    let n : old.number + 1 ≡ new.number = sym a.2 in
    record {
      table = a.3 ∙ h.table;
      count = rw (length-append rows (x ∷ [])) (omega (arith, h.count, a.2));
      few = a.4;
      enough = h.enough;
      faults = ap (λ (l : List TableFault). (l ++ table_row_faults kind (keys ++ field_of new.row 0 ∷ []) (new.number + 1) new.rows) ++ option_to_list new.stop) (sym v.0)
          ∙ (rw (a.0, n, sym a.1) at h.faults);
      values = append_assoc rows (x ∷ []) (map kind.value new.rows) ∙ ap (λ (y : A). rows ++ (y ∷ map kind.value new.rows)) (sym v.1) ∙ (rw a.0 at h.values);
    }

-- the row that was read last, without a fault
pub rows-added : {A : Type 0} (kind : RowsOf A) (identifier : A → List ℕ) (t old new : Reading) (rows after : List A) (keys grown : List (List ℕ))
    → ((row : Fields) → identifier (kind.value row) ≡ field_of row 0)
    → IsRead kind t keys rows old → keys ≡ map identifier rows → Advances old new (Ok true) → kind.faults keys new.number new.row ≡ []
    → grown ≡ keys ++ field_of new.row 0 ∷ [] → after ≡ rows ++ kind.value new.row ∷ [] → IsRead kind t grown after new × (grown ≡ map identifier after)
rows-added kind identifier t old new rows after keys grown first h same a good more is = (
  rw (more, is) (rows-step kind t old new keys rows (kind.value new.row) h a (rw good refl)),
  rw (is, map-append identifier rows (kind.value new.row ∷ []), more, same, first new.row) refl,
)

-- the end of the rows
pub rows-end : {A : Type 0} (kind : RowsOf A) (t old new : Reading) (keys : List (List ℕ)) (rows : List A)
    → IsRead kind t keys rows old → Advances old new (Ok false) → values_of kind (Ok t) ≡ Ok rows
unfolding table_row_faults
rows-end kind t old new keys rows h a =
    let none = rw (a.0, a.1) at h.faults in
    let all = rw a.0 at h.values in
    rw (h.enough, ← none, ← all, append-nil rows) refl

-- the fault that stops the rows
pub rows-stop : {A : Type 0} (kind : RowsOf A) (t old new : Reading) (keys : List (List ℕ)) (rows : List A) (f : TableFault)
    → IsRead kind t keys rows old → Advances old new (Err f) → Answers (Err f) (values_of kind (Ok t))
unfolding table_row_faults
rows-stop kind t old new keys rows Memory h a = tt
rows-stop kind t old new keys rows (At code table row wkt) h a =
    let stop = rw (a.0.0, a.0.1) at h.faults in
    rw (h.enough, ← stop) refl

-- a fault of a row
pub rows-fault : {A : Type 0} (kind : RowsOf A) (t old new : Reading) (keys : List (List ℕ)) (rows : List A) (f : TableFault)
    → IsRead kind t keys rows old → Advances old new (Ok true)
    → Answers (Err f) (unless_faulty (kind.faults keys new.number new.row) (kind.value new.row)) → Answers (Err f) (values_of kind (Ok t))
unfolding table_row_faults
rows-fault kind t old new keys rows Memory h a e = tt
rows-fault kind t old new keys rows (At code table row wkt) h a e =
    let n : old.number + 1 ≡ new.number = sym a.2 in
    let faults = rw (a.0, n) at h.faults in
    rw (h.enough, ← faults, append_assoc) (told-fault (kind.faults keys new.number new.row) _ (kind.value new.row) _ (At code table row wkt) e)

-- the fault of a column, before those of the columns after it, and after columns that have none
pub column-fault : {A B : Type 0} (fs more : List TableFault) (v : A) (w : B) (f : TableFault) → Answers (Err f) (unless_faulty fs v) → Answers (Err f) (unless_faulty (fs ++ more) w)
column-fault fs more v w Memory h = tt
column-fault [] more v w (At code table row wkt) h = cc h
column-fault (g ∷ fs) more v w (At code table row wkt) h = ap Err (cc h)

-- behind a column that has no fault, an answer for the columns after it is one for all of them
pub column-passed : {A B : Type 0} (fs more : List TableFault) (v x : A) (r : Result B TableFault) (w : B)
    → unless_faulty fs v ≡ Ok x → Answers r (unless_faulty more w) → Answers r (unless_faulty (fs ++ more) w)
column-passed [] more v x r w e h = h
column-passed (g ∷ fs) more v x r w e h = cc e

-- a fault is reported whatever the value would be
pub fault-retold : {A B : Type 0} (fs : List TableFault) (v : A) (w : B) (f : TableFault) → Answers {A = A} (Err f) (unless_faulty fs v) → Answers {A = B} (Err f) (unless_faulty fs w)
fault-retold fs v w Memory h = tt
fault-retold [] v w (At code table row wkt) h = cc h
fault-retold (g ∷ fs) v w (At code table row wkt) h = ap Err (cc h)

-- a row whose own identifier and other fields have no fault has none, and is read as its value
pub row-told : {A : Type 0} (kind : RowsOf A) (keys : List (List ℕ)) (n : ℕ) (row : Fields) (others : List TableFault) (id : List ℕ) (x : A)
    → kind.faults keys n row ≡ key_faults kind.table n keys (field_of row 0) ++ others → unless_faulty (key_faults kind.table n keys (field_of row 0)) (field_of row 0) ≡ Ok id
    → unless_faulty others (kind.value row) ≡ Ok x → (kind.faults keys n row ≡ []) × (kind.value row ≡ x)
row-told kind keys n row others id x first key rest =
    told-value (kind.faults keys n row) (kind.value row) x
    (rw first (column-passed (key_faults kind.table n keys (field_of row 0)) others (field_of row 0) id (Ok x) (kind.value row) key rest))
