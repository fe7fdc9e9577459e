use Rattle.lpis_places.proofs.BoxLemmas.{settled_rows, settled_strips, strip_more}
use Rattle.lpis_places.proofs.VisitLemmas.{touched_more, untouched, visited_by}
use Rattle.lpis_places.proofs.locating.visit.Goals as goal

pub loop-strip-preserved : goal.loop-strip-preserved
loop-strip-preserved c =
    let k = c.args.piece.now in
    let ps = c.args.points.now in
    let slots = c.strips.result.1.now in
    let has = c.strips.ensures.has in
    let touched = c.visit_strip.ensures.touched ps has in (
      touched_more k ps c.args.found.now c.loop-strip.found c.visit_strip.new.found c.loop-strip.invariant.0 touched,
      strip_more k ps slots c.loop-strip.found c.visit_strip.new.found c.first_met-first.result c.loop-strip.strip touched (c.in_ok-visit_strip.ensures.settled ps has) c.loop-strip.invariant.1,
    )

pub returns-clause-visited : goal.returns-clause-visited
returns-clause-visited c =
    let k = c.args.piece.now in
    let ps = c.args.points.now in
    let b = c.in_ok-reach.reach in
    let slots = c.strips.result.1.now in
    let found = c.loop-strip.found in
    visited_by k ps c.args.found.now found c.loop-strip.invariant.0
    (settled_rows k ps slots found c.strips.ensures.has (settled_strips k b ps c.strips.result.0.now slots found c.first_met-first.result c.last_met-strip-end.result c.loop-strip.strip
    c.in_ok-reach.ensures.boxed c.strips.ensures c.first_met-first.ensures c.last_met-strip-end.ensures.is c.loop-strip-test.false c.loop-strip.invariant.1))

pub returns-clause-touched : goal.returns-clause-touched
returns-clause-touched c = c.loop-strip.invariant.0

pub returns-in_err-reach-clause-touched : goal.returns-in_err-reach-clause-touched
returns-in_err-reach-clause-touched c = untouched c.args.piece.now c.args.points.now c.args.found.now

pub returns-in_err-visit_strip-clause-touched : goal.returns-in_err-visit_strip-clause-touched
returns-in_err-visit_strip-clause-touched c =
    touched_more c.args.piece.now c.args.points.now c.args.found.now c.loop-strip.found c.visit_strip.new.found c.loop-strip.invariant.0
    (c.visit_strip.ensures.touched c.args.points.now c.strips.ensures.has)
