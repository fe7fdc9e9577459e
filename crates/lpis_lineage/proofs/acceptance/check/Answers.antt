use Rattle.std.proofs.Common.{◌≡◌, ◌⊎◌, ◌∙◌, sym, ap, subst, List, ℕ, Some}
use Rattle.lpis_lineage.proofs.Common.{LineageFault, faults, first, kind, marked_row_faults}
use Rattle.lpis_lineage.specs.declared.fault.LineageFault.TheVariants.{Memory}
use Rattle.lpis_lineage.proofs.AcceptingLemmas.{before-marks, marks-alone, may-follow, refused-by}
use Rattle.lpis_lineage.proofs.acceptance.check.Goals as goal

pub returns-in-Err-clause-tells : goal.returns-in-Err-clause-tells
returns-in-Err-clause-tells c = before-marks c.args.history.now c.args.live.now c.args.rows.now c.in-Err.fault c.in-Err.ensures.tells

pub returns-in-Err-clause-decides : goal.returns-in-Err-clause-decides
returns-in-Err-clause-decides c =
    refused-by c.args.history.now c.args.live.now c.args.rows.now c.in-Err.fault
    (before-marks c.args.history.now c.args.live.now c.args.rows.now c.in-Err.fault c.in-Err.ensures.tells)

pub returns-in-Ok-check_marks_of-clause-tells : goal.returns-in-Ok-check_marks_of-clause-tells
returns-in-Ok-check_marks_of-clause-tells c =
    let h = c.args.history.now in
    let live = c.args.live.now in
    let rows = c.args.rows.now in
    let e : marked_row_faults (kind c.last_live.result.now c.in-Ok.set rows) rows 1 rows ≡ faults h live rows =
    ap (λ (l : List (List ℕ)). marked_row_faults (kind l c.in-Ok.set rows) rows 1 rows) c.last_live.ensures
    ∙ marks-alone h live c.in-Ok.set rows c.in-Ok.ensures.set c.in-Ok.ensures.tells in
    sym e ∙ c.in-Ok-check_marks_of.ensures

pub returns-in-Ok-check_marks_of-clause-decides : goal.returns-in-Ok-check_marks_of-clause-decides
returns-in-Ok-check_marks_of-clause-decides c =
    let h = c.args.history.now in
    let live = c.args.live.now in
    let rows = c.args.rows.now in
    let e : marked_row_faults (kind c.last_live.result.now c.in-Ok.set rows) rows 1 rows ≡ faults h live rows =
    ap (λ (l : List (List ℕ)). marked_row_faults (kind l c.in-Ok.set rows) rows 1 rows) c.last_live.ensures
    ∙ marks-alone h live c.in-Ok.set rows c.in-Ok.ensures.set c.in-Ok.ensures.tells in
    may-follow h live rows c.releases.ensures.lawful c.releases.ensures.fits (sym e ∙ c.in-Ok-check_marks_of.ensures)

pub returns-in-Err-check_marks_of-clause-tells : goal.returns-in-Err-check_marks_of-clause-tells
returns-in-Err-check_marks_of-clause-tells c =
    let h = c.args.history.now in
    let live = c.args.live.now in
    let rows = c.args.rows.now in
    let f = c.in-Err-check_marks_of.fault in
    let e : marked_row_faults (kind c.last_live.result.now c.in-Ok.set rows) rows 1 rows ≡ faults h live rows =
    ap (λ (l : List (List ℕ)). marked_row_faults (kind l c.in-Ok.set rows) rows 1 rows) c.last_live.ensures
    ∙ marks-alone h live c.in-Ok.set rows c.in-Ok.ensures.set c.in-Ok.ensures.tells in
    subst (λ (fs : List LineageFault). (f ≡ Memory) ⊎ (first fs ≡ Some f)) e c.in-Err-check_marks_of.ensures

pub returns-in-Err-check_marks_of-clause-decides : goal.returns-in-Err-check_marks_of-clause-decides
returns-in-Err-check_marks_of-clause-decides c =
    let h = c.args.history.now in
    let live = c.args.live.now in
    let rows = c.args.rows.now in
    let f = c.in-Err-check_marks_of.fault in
    let e : marked_row_faults (kind c.last_live.result.now c.in-Ok.set rows) rows 1 rows ≡ faults h live rows =
    ap (λ (l : List (List ℕ)). marked_row_faults (kind l c.in-Ok.set rows) rows 1 rows) c.last_live.ensures
    ∙ marks-alone h live c.in-Ok.set rows c.in-Ok.ensures.set c.in-Ok.ensures.tells in
    refused-by h live rows f (subst (λ (fs : List LineageFault). (f ≡ Memory) ⊎ (first fs ≡ Some f)) e c.in-Err-check_marks_of.ensures)
