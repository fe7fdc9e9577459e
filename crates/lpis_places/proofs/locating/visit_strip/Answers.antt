use Rattle.std.proofs.Common.{All, List, subst, sym}
use Rattle.std.proofs.lemmas.Result.{on_ok_weaker}
use Rattle.lpis_places.specs.declared.index.Slot.{Slot}
use Rattle.lpis_places.specs.private.Slots.{IsSlot}
use Rattle.lpis_places.specs.private.Visits.{AreSettled}
use Rattle.lpis_places.proofs.BoxLemmas.{strip_settled}
use Rattle.lpis_places.proofs.VisitLemmas.{all_tell, untouched}
use Rattle.lpis_places.proofs.locating.visit_strip.Goals as goal

pub sift-requires-clause-tell : goal.sift-requires-clause-tell
sift-requires-clause-tell c = all_tell c.args.piece.now c.args.edges.now _ c.requires.drawn

pub sift-requires-clause-within : goal.sift-requires-clause-within
sift-requires-clause-within c =
    let w = c.requires.within in
    (w.0, subst (λ (met : List Slot). All (IsSlot w.0) met) (sym c.deref.ensures.value) (c.in_ok-gather.ensures.only w.0 w.1), w.2)

pub returns-clause-touched : goal.returns-clause-touched
returns-clause-touched c = λ ps has.
    c.sift.ensures.touched ps (subst (λ (met : List Slot). All (IsSlot ps) met) (sym c.deref.ensures.value) (c.in_ok-gather.ensures.only ps has))

pub returns-clause-settled : goal.returns-clause-settled
returns-clause-settled c = λ ps has.
    let only = subst (λ (met : List Slot). All (IsSlot ps) met) (sym c.deref.ensures.value) (c.in_ok-gather.ensures.only ps has) in
    on_ok_weaker c.sift.result
    (λ settled. strip_settled c.args.piece.now ps c.args.slots.now c.gather.new.met.items c.args.found.now c.sift.new.found c.args.strip
    (c.in_ok-gather.ensures.all ps c.args.piece.now has c.requires.boxed) (c.sift.ensures.touched ps only)
    (subst (λ (met : List Slot). AreSettled c.args.piece.now ps c.sift.new.found met) c.deref.ensures.value settled))
    (c.sift.ensures.settled ps only)

pub returns-in_err-gather-clause-touched : goal.returns-in_err-gather-clause-touched
returns-in_err-gather-clause-touched c = λ ps has. untouched c.args.piece.now ps c.args.found.now
