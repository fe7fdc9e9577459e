use Rattle.std.proofs.Common.{◌≡◌, ◌+◌, ◌∙◌, ◌++◌, ◌∷◌, [], ℕ, List, Ok, ap, map, refl, sym}
use Rattle.lpis_lineage.proofs.Common.{Row}
use Rattle.std.proofs.lemmas.List.{map-append}
use Rattle.std.proofs.lemmas.Result.{err_from_is_err_and}
use Rattle.lpis_tables.proofs.Shared.{rows-end, rows-fault, rows-start, rows-step, rows-stop}
use Rattle.lpis_tables.specs.declared.fault.TableFault.{TableFault}
use Rattle.lpis_tables.specs.Faults.{unless_faulty}
use Rattle.lpis_tables.specs.Table.{field_of}
use Rattle.lpis_lineage.specs.LineageTable.{lineage_faults, lineage_table, row_of}
use Rattle.lpis_lineage.proofs.reading.add_rows.Goals as goal

pub read_row-requires-clause-table : goal.read_row-requires-clause-table
read_row-requires-clause-table c = (rw c.if-branch.true at c.in_ok-next_row.ensures).3 ∙ c.rows.invariant.0.table

pub read_row-requires-clause-number : goal.read_row-requires-clause-number
read_row-requires-clause-number c = ap (λ (n : ℕ). n + 1) c.rows.invariant.1 ∙ sym (rw c.if-branch.true at c.in_ok-next_row.ensures).2

pub rows-init : goal.rows-init
rows-init c =
    let read = rows-start lineage_table c.args.reader.now c.requires.table c.requires.start refl in
    rw c.requires.empty (read, sym read.count)

pub returns-in_err-next_row-clause-fault : goal.returns-in_err-next_row-clause-fault
returns-in_err-next_row-clause-fault c =
    let p = err_from_is_err_and c.from_residual.result c.from_residual.ensures.1 in
    rw (p.1, p.2) (rows-stop lineage_table c.args.reader.now c.rows.reader
    c.next_row.new.self (map (λ (r : Row). r.old) c.rows.rows.items) c.rows.rows.items c.in_err-next_row.field-0.0
    c.rows.invariant.0 c.in_err-next_row.ensures)

pub returns-in_err-row-clause-fault : goal.returns-in_err-row-clause-fault
returns-in_err-row-clause-fault c =
    let p = err_from_is_err_and c.from_residual-in_err-row.result c.from_residual-in_err-row.ensures.1 in
    let advanced = rw c.if-branch.true at c.in_ok-next_row.ensures in
    rw (p.1, p.2) (rows-fault lineage_table c.args.reader.now c.rows.reader
    c.next_row.new.self (map (λ (r : Row). r.old) c.rows.rows.items) c.rows.rows.items c.in_err-row.field-0.0
    c.rows.invariant.0 advanced c.in_err-row.ensures)

-- a row that is read without a fault
told-old : (faults : List TableFault) (said row : Row) → unless_faulty faults said ≡ Ok row → said.old ≡ row.old
told-old [] said row h = cc h
told-old (f ∷ fs) said row h = cc h

pub rows-preserved : goal.rows-preserved
rows-preserved c =
    let advanced = rw c.if-branch.true at c.in_ok-next_row.ensures in
    let now = c.next_row.new.self in
    let rows = c.rows.rows.items in
    let old = told-old (lineage_faults now.number now.row) (row_of now.row) c.in_ok-row.row c.in_ok-row.ensures in
    let keys : map (λ (r : Row). r.old) rows ++ field_of now.row 0 ∷ [] ≡ map (λ (r : Row). r.old) (rows ++ c.in_ok-row.row ∷ []) =
    ap (λ (k : List ℕ). map (λ (r : Row). r.old) rows ++ k ∷ []) old ∙ sym (map-append (λ (r : Row). r.old) rows (c.in_ok-row.row ∷ [])) in
    rw (c.in_ok-push.ensures.items, ← keys) (
      rows-step lineage_table c.args.reader.now c.rows.reader now (map (λ (r : Row). r.old) rows) rows c.in_ok-row.row
          c.rows.invariant.0 advanced c.in_ok-row.ensures,
      ap (λ (n : ℕ). n + 1) c.rows.invariant.1 ∙ sym advanced.2,
    )

pub returns-clause-rows : goal.returns-clause-rows
returns-clause-rows c =
    let ended = rw c.if-branch.false at c.in_ok-next_row.ensures in
    rows-end lineage_table c.args.reader.now c.rows.reader c.next_row.new.self (map (λ (r : Row). r.old) c.rows.rows.items) c.rows.rows.items c.rows.invariant.0 ended
