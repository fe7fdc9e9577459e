use Rattle.lpis_country.proofs.ReadingLemmas.{reading_first, reading_more, reading_fault, reading_done}
use Rattle.lpis_country.proofs.reading.read_lines.Goals as goal

pub reading-init : goal.reading-init
reading-init c = reading_first c.args.start.now c.in_ok-draft.draft c.in_ok-draft.ensures.owing c.in_ok-draft.ensures.begun

pub reading-preserved : goal.reading-preserved
reading-preserved c =
    let is = c.in-Some-2.is in
    reading_more c.args.start.now c.reading.rest.now c.in-Some.bytes.now c.in-Some.after.now c.reading.line c.reading.draft c.in-Some-2.grown c.reading.invariant c.in-Some.ensures
    (rw is at c.in_ok-grown.ensures.owing) (rw is at c.in_ok-grown.ensures.begun)

pub returns-in-None-clause-err : goal.returns-in-None-clause-err
returns-in-None-clause-err c =
    reading_fault c.args.start.now c.reading.rest.now c.in-Some.bytes.now c.in-Some.after.now c.reading.line c.reading.draft c.reading.invariant c.in-Some.ensures
    (rw c.in-None.is at c.in_ok-grown.ensures.owing)

pub returns-in_default-clause-ok : goal.returns-in_default-clause-ok
returns-in_default-clause-ok c = reading_done c.ended.result c.args.start.now c.reading.rest.now c.reading.line c.reading.draft c.reading.invariant c.ended.ensures.ok
