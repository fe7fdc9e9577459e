use Rattle.std.proofs.Common.{ℕ, List, Err, subst₂, take}
use Rattle.lpis_register_rows.proofs.Common.{err_from_is_err_and, Row}
use Rattle.lpis_lineage.specs.Accepts.{AddRefuses}
use Rattle.lpis_register_rows.proofs.NextReleaseLemmas.{lines-added, sets-added, year-added}
use Rattle.lpis_register_rows.proofs.FrontLemmas.{due-added, due-refused, due-rows, due-run}
use Rattle.lpis_register_rows.proofs.building.add_year.Goals as goal

pub returns-in-Ok-clause-adds : goal.returns-in-Ok-clause-adds
returns-in-Ok-clause-adds c =
    let spans = c.args.spans.now in
    let lines = c.args.lines.now in
    let old = c.args.history.now in
    let from = c.args.from in
    let year = c.args.year in
    let within = c.requires.within in
    let live = c.as_slice.ensures.value in
    let rows = c.as_slice-2.ensures.value in
    let added = c.in-Ok.ensures.ok in
    let read = c.in_ok-rows.ensures in
    record {
      within = read.within;
      years = year-added old c.add.new.self year c.as_slice.result.now c.as_slice-2.result.now added;
      sets = sets-added old c.add.new.self year c.in_ok-live.live.items c.as_slice-2.result.now spans (rw live at added) c.in_ok-live.ensures;
      lines_are = λ before.
          lines-added old c.add.new.self year c.as_slice.result.now c.in_ok-rows.rows.items (take from lines) (take c.in_ok-rows.next lines) (rw rows at added) before read.rows;
      front = λ h said due.
          let run = due-run spans lines old h from year said due within in
          let these = due-rows spans lines old h from year said due within c.in_ok-rows.rows.items c.in_ok-rows.next (read.run _ run) read.rows in
          due-added spans lines old h from year said due within c.add.new.self c.in_ok-live.live.items c.in_ok-rows.rows.items (rw (live, rows) at added) c.in_ok-live.ensures these;
    }

pub returns-in_err-rows-clause-refused : goal.returns-in_err-rows-clause-refused
returns-in_err-rows-clause-refused c =
    let p = err_from_is_err_and c.from_residual-in_err-rows.result c.from_residual-in_err-rows.ensures.1 in
    rw (p.1, p.2) (λ e h said due. c.in_err-rows.ensures.refused e _ (due-run c.args.spans.now c.args.lines.now c.args.history.now h c.args.from c.args.year said due c.requires.within))

pub returns-clause-refused : goal.returns-clause-refused
returns-clause-refused c = λ e h said due.
    let run = due-run c.args.spans.now c.args.lines.now c.args.history.now h c.args.from c.args.year said due c.requires.within in
    due-refused c.args.spans.now c.args.lines.now c.args.history.now h c.args.from c.args.year said due c.requires.within c.in_ok-live.live.items c.in_ok-rows.rows.items c.in-Err.fault
    c.in_ok-live.ensures
    (due-rows c.args.spans.now c.args.lines.now c.args.history.now h c.args.from c.args.year said due c.requires.within
    c.in_ok-rows.rows.items c.in_ok-rows.next (c.in_ok-rows.ensures.run _ run) c.in_ok-rows.ensures.rows)
    (subst₂ (λ (l : List (List ℕ)) (r : List Row). AddRefuses {A = Unit {0}} c.args.history.now c.args.year l r (Err c.in-Err.fault))
    c.as_slice.ensures.value c.as_slice-2.ensures.value c.in-Err.ensures.tells)
    (c.fault_of.ensures e)
