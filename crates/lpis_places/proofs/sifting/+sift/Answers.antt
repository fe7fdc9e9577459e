use Rattle.std.proofs.Common.{◌∙◌, All, arith, subst, sym}
use Rattle.std.proofs.lemmas.Result.{on_ok_weaker}
use Rattle.lpis_places.specs.private.Slots.{IsSlot}
use Rattle.lpis_places.specs.private.Visits.{AreSettled}
use Rattle.lpis_places.proofs.SiftLemmas.{half_has, halves_settled, part_tells}
use Rattle.lpis_places.proofs.VisitLemmas.{still_all, touched_more}
use Rattle.lpis_places.proofs.sifting.+sift.Goals as goal

pub sift-requires : goal.sift-requires
sift-requires t c =
    let slots = c.args.slots.now in
    let low = c.in_ok-low.low.items in
    let w = c.requires.within in (
      omega (arith, c.are_few.ensures c.if-are_few.false),
      (
        part_tells c.args.piece.now c.args.odd c.in_ok-left.inside c.args.edges.now c.in_ok-left.left.items c.deref.result.now slots low c.deref-2.result.now c.in-Some.span
            c.deref.ensures.value c.deref-2.ensures.value
            c.requires.tell c.in-Some.ensures c.in_ok-left.ensures c.in_ok-low.ensures.lows,
        (w.0, subst (All (IsSlot w.0)) (sym c.deref-2.ensures.value) (half_has (IsSlot w.0) slots low w.1 c.in_ok-low.ensures.lows), w.2),
      ),
    )

pub returns-in_err-sift-clause-touched : goal.returns-in_err-sift-clause-touched
returns-in_err-sift-clause-touched t c = λ ps is.
    c.sift.ensures.touched ps (subst (All (IsSlot ps)) (sym c.deref-2.ensures.value) (half_has (IsSlot ps) c.args.slots.now c.in_ok-low.low.items is c.in_ok-low.ensures.lows))

pub sift-requires-2 : goal.sift-requires-2
sift-requires-2 t c =
    let slots = c.args.slots.now in
    let high = c.in_ok-low.high.items in
    let w = c.requires.within in
    let lows = subst (All (IsSlot w.0)) (sym c.deref-2.ensures.value) (half_has (IsSlot w.0) slots c.in_ok-low.low.items w.1 c.in_ok-low.ensures.lows) in (
      omega (arith, c.are_few.ensures c.if-are_few.false),
      (
        part_tells c.args.piece.now c.args.odd c.in_ok-left.inside c.args.edges.now c.in_ok-left.left.items c.deref-3.result.now slots high c.deref-4.result.now c.in-Some.span
            c.deref-3.ensures.value c.deref-4.ensures.value
            c.requires.tell c.in-Some.ensures c.in_ok-left.ensures c.in_ok-low.ensures.highs,
        (w.0, subst (All (IsSlot w.0)) (sym c.deref-4.ensures.value) (half_has (IsSlot w.0) slots high w.1 c.in_ok-low.ensures.highs), (c.sift.ensures.touched w.0 lows).as_many ∙ w.2),
      ),
    )

pub returns-clause-touched : goal.returns-clause-touched
returns-clause-touched t c = λ ps is.
    let slots = c.args.slots.now in
    let lows = subst (All (IsSlot ps)) (sym c.deref-2.ensures.value) (half_has (IsSlot ps) slots c.in_ok-low.low.items is c.in_ok-low.ensures.lows) in
    let highs = subst (All (IsSlot ps)) (sym c.deref-4.ensures.value) (half_has (IsSlot ps) slots c.in_ok-low.high.items is c.in_ok-low.ensures.highs) in
    touched_more c.args.piece.now ps c.args.found.now c.sift.new.found c.sift-2.new.found (c.sift.ensures.touched ps lows) (c.sift-2.ensures.touched ps highs)

pub returns-clause-settled : goal.returns-clause-settled
returns-clause-settled t c = λ ps is.
    let k = c.args.piece.now in
    let slots = c.args.slots.now in
    let low = c.in_ok-low.low.items in
    let high = c.in_ok-low.high.items in
    let lows = subst (All (IsSlot ps)) (sym c.deref-2.ensures.value) (half_has (IsSlot ps) slots low is c.in_ok-low.ensures.lows) in
    let highs = subst (All (IsSlot ps)) (sym c.deref-4.ensures.value) (half_has (IsSlot ps) slots high is c.in_ok-low.ensures.highs) in
    let first = subst (AreSettled k ps c.sift.new.found) c.deref-2.ensures.value (c.in_ok-sift.ensures.settled ps lows) in
    on_ok_weaker c.sift-2.result
    (λ second. halves_settled k ps c.sift-2.new.found slots low high c.in_ok-low.ensures (still_all k ps c.sift.new.found c.sift-2.new.found low (c.sift-2.ensures.touched ps highs) first)
    (subst (AreSettled k ps c.sift-2.new.found) c.deref-4.ensures.value second))
    (c.sift-2.ensures.settled ps highs)
