use Rattle.std.proofs.Common.{◌∙◌, ◌++◌, ◌∷◌, [], ap, sym, refl, ℕ, List}
use Rattle.lpis_run.specs.Status.{done}
use Rattle.std.proofs.lemmas.Result.{err_from_is_err_and}
use Rattle.lpis_tables.specs.Table.{field_of}
use Rattle.lpis_tables.proofs.Shared.{rows-end, rows-fault, rows-start, rows-step, rows-stop}
use Rattle.lpis_run_check.specs.AreaAnswer.{answer_from, area_table, polygon_area_line}
use Rattle.lpis_run.proofs.Shared.{flat_map-push}
use Rattle.lpis_run_check.proofs.area.add_lines.Goals as goal

pub rows-init : goal.rows-init
rows-init c = ([], [], rows-start area_table c.args.reader.now c.requires.table c.requires.start refl, c.requires.empty)

pub add_line-requires : goal.add_line-requires
add_line-requires c = record { table = (rw c.if-branch.true at c.in_ok-next_row.ensures).3 ∙ c.rows.invariant.2.table }

pub returns-in_err-next_row : goal.returns-in_err-next_row
returns-in_err-next_row c =
    let known = c.rows.invariant in
    let p = err_from_is_err_and c.from_residual.result c.from_residual.ensures.1 in
    rw (p.1, p.2) (rows-stop area_table c.args.reader.now c.rows.reader c.next_row.new.self known.0 known.1 c.in_err-next_row.field-0.0
    known.2 c.in_err-next_row.ensures)

pub returns-in_err-add_line : goal.returns-in_err-add_line
returns-in_err-add_line c =
    let known = c.rows.invariant in
    let p = err_from_is_err_and c.from_residual-in_err-add_line.result c.from_residual-in_err-add_line.ensures.1 in
    let advanced = rw c.if-branch.true at c.in_ok-next_row.ensures in
    rw (p.1, p.2) (rows-fault area_table c.args.reader.now c.rows.reader c.next_row.new.self known.0 known.1 c.in_err-add_line.field-0.0
    known.2 advanced c.in_err-add_line.ensures)

pub rows-preserved : goal.rows-preserved
rows-preserved c =
    let known = c.rows.invariant in
    let advanced = rw c.if-branch.true at c.in_ok-next_row.ensures in
    let line = c.in_ok-add_line.ensures in (
      known.0 ++ field_of c.next_row.new.self.row 0 ∷ [],
      known.1 ++ line.0 ∷ [],
      rows-step area_table c.args.reader.now c.rows.reader c.next_row.new.self known.0 known.1 line.0 known.2 advanced line.1,
      line.2 ∙ ap (λ (lines : List ℕ). lines ++ polygon_area_line line.0) known.3 ∙ flat_map-push polygon_area_line known.1 line.0,
    )

pub returns : goal.returns
returns c =
    let known = c.rows.invariant in
    let ended = rw c.if-branch.false at c.in_ok-next_row.ensures in
    ap answer_from (rows-end area_table c.args.reader.now c.rows.reader c.next_row.new.self known.0 known.1 known.2 ended)
    ∙ ap (λ (lines : List ℕ). (lines, done)) (sym known.3)
