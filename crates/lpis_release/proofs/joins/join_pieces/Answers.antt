use Rattle.std.proofs.Common.{◌≡◌, ◌≤◌, ◌∙◌, ◌+◌, Some, ap, arith, length, refl, slice_get, subst}
use Rattle.std.proofs.lemmas.Result.{err_from_is_err_and}
use Rattle.std.proofs.lemmas.List.{drop_all, take_all}
use Rattle.lpis_release.proofs.Common.{reference_faults, slice_get_read}
use Rattle.lpis_release.specs.private.Joined.{AreJoins}
use Rattle.lpis_release.proofs.JoinLemmas.{joins-more, joins-none, piece-refused, pieces-more}
use Rattle.lpis_release.proofs.joins.join_pieces.Goals as goal

pub loop-i-init : goal.loop-i-init
loop-i-init c = (refl, rw (c.in_ok-joins.ensures.items, c.in_ok-class_indices.ensures.items) (joins-none c.args.parcels.now c.args.classes.now))

pub loop-i-preserved : goal.loop-i-preserved
loop-i-preserved c =
    let at : slice_get c.args.pieces.now c.loop-i.i ≡ Some c.index-pieces-i.result =
    slice_get_read c.args.pieces.now _ c.loop-i.i c.index-pieces-i.result refl c.loop-i-test.true c.index-pieces-i.is in (
      c.loop-i.invariant.0 ∙ pieces-more c.args.parcels.now c.args.classes.now (c.loop-i.i + 1) c.loop-i.i c.args.pieces.now c.index-pieces-i.result at c.in_ok-parcel.ensures.none,
      joins-more c.args.parcels.now c.args.pieces.now c.args.classes.now c.loop-i.joins.items _ c.loop-i.class_indices.items _
          c.loop-i.i c.in_ok-parcel.parcel c.in_ok-parcel.class c.index-pieces-i.result
          c.as_slice.ensures.distinct c.requires.distinct at c.in_ok-parcel.ensures.parcel c.in_ok-parcel.ensures.class c.loop-i.invariant.1 c.in_ok-push.ensures.items c.in_ok-push-2.ensures.items,
    )

pub returns-in_err-joins-clause-err : goal.returns-in_err-joins-clause-err
returns-in_err-joins-clause-err c =
    let p = err_from_is_err_and c.from_residual.result c.from_residual.ensures.1 in
    rw (p.1, p.2) tt

pub returns-in_err-class_indices-clause-err : goal.returns-in_err-class_indices-clause-err
returns-in_err-class_indices-clause-err c =
    let p = err_from_is_err_and c.from_residual-in_err-class_indices.result c.from_residual-in_err-class_indices.ensures.1 in
    rw (p.1, p.2) tt

pub returns-in_err-parcel-clause-err : goal.returns-in_err-parcel-clause-err
returns-in_err-parcel-clause-err c =
    let p = err_from_is_err_and c.from_residual-in_err-parcel.result c.from_residual-in_err-parcel.ensures.1 in
    let at : slice_get c.args.pieces.now c.loop-i.i ≡ Some c.index-pieces-i.result =
    slice_get_read c.args.pieces.now _ c.loop-i.i c.index-pieces-i.result refl c.loop-i-test.true c.index-pieces-i.is in
    rw (p.1, p.2, c.loop-i.invariant.0)
    (piece-refused c.args.parcels.now c.args.classes.now (c.loop-i.i + 1) c.loop-i.i c.args.pieces.now c.index-pieces-i.result _ at c.in_err-parcel.ensures.err)

pub returns-in_err-push-clause-err : goal.returns-in_err-push-clause-err
returns-in_err-push-clause-err c =
    let p = err_from_is_err_and c.from_residual-in_err-push.result c.from_residual-in_err-push.ensures.1 in
    rw (p.1, p.2) tt

pub returns-in_err-push-2-clause-err : goal.returns-in_err-push-2-clause-err
returns-in_err-push-2-clause-err c =
    let p = err_from_is_err_and c.from_residual-in_err-push-2.result c.from_residual-in_err-push-2.ensures.1 in
    rw (p.1, p.2) tt

pub returns-clause-none : goal.returns-clause-none
returns-clause-none c =
    let end : length c.args.pieces.now ≤ c.loop-i.i = omega (arith, c.loop-i-test.false) in
    c.loop-i.invariant.0 ∙ ap (reference_faults c.args.parcels.now c.args.classes.now (c.loop-i.i + 1)) (drop_all c.loop-i.i c.args.pieces.now end)

pub returns-clause-joins : goal.returns-clause-joins
returns-clause-joins c =
    let end : length c.args.pieces.now ≤ c.loop-i.i = omega (arith, c.loop-i-test.false) in
    subst (λ ps. AreJoins c.args.parcels.now ps c.args.classes.now c.loop-i.joins.items c.loop-i.class_indices.items) (take_all c.loop-i.i c.args.pieces.now end) c.loop-i.invariant.1
