use Rattle.std.proofs.Common.{Option, subst, sym}
use Rattle.std.proofs.lemmas.Result.{on_ok_weaker}
use Rattle.lpis_places.specs.declared.place.Place.{Place}
use Rattle.lpis_places.specs.Points.{rational_at}
use Rattle.lpis_places.specs.private.Visits.{IsTouched}
use Rattle.lpis_places.proofs.VisitLemmas.{settled_at, touched_at}
use Rattle.lpis_places.proofs.sifting.settle_row.Goals as goal

pub returns-clause-touched : goal.returns-clause-touched
returns-clause-touched c = λ ps s.
    let k = c.args.piece.now in
    let slot = c.args.slot.now in
    let was = c.index-found-slot.result in
    let new = c.settle.new.found in
    touched_at k ps c.args.found.now slot.row s.point was new s.at c.requires.within c.index-found-slot.is
    (rw s.same (subst (λ (o : Option Place). IsTouched k (rational_at slot.spot) o new) (sym c.index-found-slot.is) c.settle.ensures.touched))

pub returns-clause-settled : goal.returns-clause-settled
returns-clause-settled c = λ ps s.
    on_ok_weaker c.settle.result (λ told. settled_at c.args.piece.now ps c.args.found.now c.args.slot.now.row s.point c.settle.new.found s.at c.requires.within
    (rw s.same told)) c.settle.ensures.settled
