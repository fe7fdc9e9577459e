use Rattle.std.proofs.Common.{◌≡◌, ◌∷◌, [], refl, rules, codes, ℕ, List, Ok, Bor}
use Rattle.lpis_tables.specs.declared.fault.Table.TheVariants.{Area}
use Rattle.lpis_tables.specs.Table.{Reading, table_of, texts}
use Rattle.lpis_tables.proofs.Shared.{table-start}
use Rattle.lpis_run_check.proofs.area.area_lines.Goals as goal

-- the table that was opened
opened : (columns further : List (Bor (List ℕ))) (bytes : List ℕ) (reader : Reading) → texts columns ≡ codes "wkt" ∷ [] → texts further ≡ []
    → table_of Area (texts columns) (texts further) bytes ≡ Ok reader → table_of Area (codes "wkt" ∷ []) [] bytes ≡ Ok reader
opened columns further bytes reader e f h = rw (e, f) at h

pub add_lines-requires-clause-table : goal.add_lines-requires-clause-table
add_lines-requires-clause-table c =
    let table = opened c.as_slice-2.result.now [] c.args.bytes.now c.in_ok-reader.reader (search rules) refl c.in_ok-reader.ensures in
    (table-start Area (codes "wkt" ∷ []) [] c.args.bytes.now c.in_ok-reader.reader table).0

pub add_lines-requires-clause-start : goal.add_lines-requires-clause-start
add_lines-requires-clause-start c =
    let table = opened c.as_slice-2.result.now [] c.args.bytes.now c.in_ok-reader.reader (search rules) refl c.in_ok-reader.ensures in
    (table-start Area (codes "wkt" ∷ []) [] c.args.bytes.now c.in_ok-reader.reader table).1

pub returns : goal.returns
returns c =
    let table = opened c.as_slice-2.result.now [] c.args.bytes.now c.in_ok-reader.reader (search rules) refl c.in_ok-reader.ensures in
    rw table c.add_lines.ensures
