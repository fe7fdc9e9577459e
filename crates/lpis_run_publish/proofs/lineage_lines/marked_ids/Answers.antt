use Rattle.std.proofs.Common.{◌∙◌, ◌||◌, ◌&&◌, ap, Bool}
use Rattle.lpis_lineage.specs.Lineage.{is_row_of}
use Rattle.lpis_run_publish.proofs.MarkedLemmas.{marked-next}
use Rattle.lpis_run_publish.proofs.lineage_lines.marked_ids.Goals as goal

pub loop-row-preserved : goal.loop-row-preserved
loop-row-preserved c = λ id.
    c.in_ok-note_mark.ensures id ∙ ap (λ (b : Bool). b || (is_row_of id c.row-item.result && c.row-item.result.exact)) (c.loop-row.invariant id)
    ∙ marked-next id c.args.rows.now c.loop-row.row-index c.row-item.result c.loop-row-test.true c.row-item.is
