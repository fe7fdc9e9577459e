use Rattle.std.proofs.Common.{map, length, arith, ◌∙◌, refl}
use Rattle.lpis_cert.proofs.Common.{err_from_is_err_and, length-map, grow_flats, block_of_piece, triangle_corners, corner_numbers}
use Rattle.lpis_cert.specs.private.Drafts.{draft_lines, stage_after}
use Rattle.lpis_cert.proofs.DraftLemmas.{can_begin, none_before, flats_named, too_many_flats, flats_fault, one_more_lines, one_more_flats, stage_parcels, stage_exact, flats_grown}
use Rattle.lpis_cert.proofs.blocks.flat_block.Goals as goal

pub returns-then-all_flats-gt-MOST_FLATS-clause-err : goal.returns-then-all_flats-gt-MOST_FLATS-clause-err
returns-then-all_flats-gt-MOST_FLATS-clause-err c =
    let d = c.args.draft.now in
    too_many_flats (record { triangles = d.triangles; flats = d.flats }) d.stage c.args.owner c.args.id c.args.flat_count
    c.requires.fits (can_begin d.stage c.args.owner c.args.id c.args.flat_count c.requires.stands) c.if-all_flats-gt-MOST_FLATS.true c.requires.begins

pub returns-in_err-own_flats-clause-err : goal.returns-in_err-own_flats-clause-err
returns-in_err-own_flats-clause-err c =
    let p = err_from_is_err_and c.from_residual.result c.from_residual.ensures.1 in
    let d = c.args.draft.now in
    rw (p.1, p.2) (flats_fault c.in_err-own_flats.field-0.0 (record { triangles = d.triangles; flats = d.flats }) d.stage c.args.owner c.args.id c.args.flat_count
    c.requires.fits (can_begin d.stage c.args.owner c.args.id c.args.flat_count c.requires.stands) d.triangles_few c.if-all_flats-gt-MOST_FLATS.false c.requires.begins
    (c.in_err-own_flats.ensures.err (stage_after c.args.owner) 0 (grow_flats (record { triangles = d.triangles; flats = d.flats }) c.args.flat_count)))

pub add_flats-requires : goal.add_flats-requires
add_flats-requires c = flats_named c.args.draft.now.version c.args.owner c.args.id c.args.flat_count c.requires.fits

pub invariant_of-draft-2 : goal.invariant_of-draft-2
invariant_of-draft-2 c =
    let d = c.args.draft.now in
    let can = can_begin d.stage c.args.owner c.args.id c.args.flat_count c.requires.stands in
    let is = c.stage-draft.ensures in
    let fs = c.in_ok-own_flats.own_flats.items in
    let qs = c.add_flats.new.parcels.items in
    let es = c.add_flats.new.exact.items in
    let more = one_more_flats c.args.owner c.args.id fs d.parcels.items d.exact.items qs es c.in_ok-add_flats.ensures.ok in
    record {
      triangles_counted = d.triangles_counted;
      flats_counted = omega (arith, d.flats_counted, c.in_ok-own_flats.ensures.count, more);
      triangles_few = d.triangles_few;
      flats_few = c.if-all_flats-gt-MOST_FLATS.false;
      no_parcels = rw is (λ first. absurd (stage_parcels c.args.owner first));
      no_exact = rw is (stage_exact c.args.owner c.args.id fs d.parcels.items d.exact.items qs es
          c.in_ok-add_flats.ensures.ok (none_before d.stage c.args.owner (length d.exact.items) can d.no_exact));
    }

pub returns-clause-ok : goal.returns-clause-ok
returns-clause-ok c =
    let d = c.args.draft.now in
    let fs = c.in_ok-own_flats.own_flats.items in
    let can = can_begin d.stage c.args.owner c.args.id c.args.flat_count c.requires.stands in
    let none = none_before d.stage c.args.owner (length d.exact.items) can d.no_exact in
    let lines = one_more_lines c.args.owner (map block_of_piece d.pieces.items) c.args.id fs d.parcels.items d.exact.items
    c.add_flats.new.parcels.items c.add_flats.new.exact.items c.in_ok-add_flats.ensures.ok none in
    let is = c.stage-draft.ensures in (
      refl,
      rw is (flats_grown c.args.owner (draft_lines d) _ c.args.id (triangle_corners fs) d.stage (record { triangles = d.triangles; flats = d.flats }) c.args.flat_count lines
          c.requires.fits can d.triangles_few c.if-all_flats-gt-MOST_FLATS.false (length-map fs corner_numbers ∙ c.in_ok-own_flats.ensures.count) c.requires.begins
          c.in_ok-own_flats.ensures.ok),
    )
