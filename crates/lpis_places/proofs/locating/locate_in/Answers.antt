use Rattle.std.proofs.Common.{◌≡◌, ◌++◌, ◌∷◌, [], ◌∙◌, List, Contains, ap, drop, sym, subst, take}
use Rattle.std.proofs.lemmas.List.{take-append-drop, take_all, take_more}
use Rattle.lpis_tables.specs.declared.piece.Piece.{Piece}
use Rattle.lpis_places.specs.private.Visits.{AreVisited}
use Rattle.lpis_places.proofs.PartLemmas.{all_parted}
use Rattle.lpis_places.proofs.VisitLemmas.{found_in, kept_of_found, kept_so_far, visited_more, visited_none}
use Rattle.lpis_places.proofs.locating.locate_in.Goals as goal

pub loop-piece-init : goal.loop-piece-init
loop-piece-init c = visited_none c.args.points.now c.args.found.now

pub visit-requires : goal.visit-requires
visit-requires c =
    let piece = c.piece-item.result in
    record {
      sound = c.requires.sound;
      among = subst (λ (ks : List Piece). Contains ks piece) c.pieces-piece-items.ensures.pieces (c.loop-piece.piece-index, c.loop-piece-test.true, sym c.piece-item.is);
      as_many = c.loop-piece.invariant.as_many ∙ c.requires.as_many;
    }

pub loop-piece-preserved : goal.loop-piece-preserved
loop-piece-preserved c =
    let pieces = c.pieces-piece-items.result.now in
    let i = c.loop-piece.piece-index in
    let piece = c.piece-item.result in
    let more = take_more pieces i piece c.loop-piece-test.true ∙ ap (λ (k : Piece). take i pieces ++ k ∷ []) (sym c.piece-item.is) in
    subst (λ (ks : List Piece). AreVisited ks c.args.points.now c.args.found.now c.visit.new.found) (sym more)
    (visited_more (take i pieces) (piece ∷ []) c.args.points.now c.args.found.now c.loop-piece.found c.visit.new.found c.loop-piece.invariant c.in_ok-visit.ensures.visited)

pub returns : goal.returns
returns c =
    let r = c.args.release.now in
    let pieces = c.pieces-piece-items.result.now in
    let all = take_all c.loop-piece.piece-index pieces c.loop-piece-test.false ∙ c.pieces-piece-items.ensures.pieces in
    let found = found_in r c.args.points.now c.args.found.now c.loop-piece.found (all_parted r c.args.points.now c.requires.sound c.is_region.ensures c.are_in_parts.ensures)
    (subst (λ (ks : List Piece). AreVisited ks c.args.points.now c.args.found.now c.loop-piece.found) all c.loop-piece.invariant) in
    record { found = found; kept = kept_of_found r c.args.points.now c.args.found.now c.loop-piece.found found }

pub returns-in_err-visit-clause-kept : goal.returns-in_err-visit-clause-kept
returns-in_err-visit-clause-kept c =
    let r = c.args.release.now in
    let pieces = c.pieces-piece-items.result.now in
    let i = c.loop-piece.piece-index in
    let piece = c.piece-item.result in
    let among : Contains r.pieces piece = subst (λ (ks : List Piece). Contains ks piece) c.pieces-piece-items.ensures.pieces (i, c.loop-piece-test.true, sym c.piece-item.is) in
    let all : r.pieces ≡ take i pieces ++ drop i pieces = sym c.pieces-piece-items.ensures.pieces ∙ sym (take-append-drop i pieces) in
    kept_so_far r (take i pieces) (drop i pieces) piece c.args.points.now c.args.found.now c.loop-piece.found c.visit.new.found
    (all_parted r c.args.points.now c.requires.sound c.is_region.ensures c.are_in_parts.ensures) all among c.loop-piece.invariant c.visit.ensures.touched
