use Rattle.std.proofs.Common.{List, subst, sym}
use Rattle.lpis_register_rows.proofs.Common.{err_from_is_err_and, last_live}
use Rattle.lpis_register_rows.proofs.AscendingLemmas.{all-both, all-map, all-moved}
use Rattle.lpis_register_rows.proofs.KnownLemmas.{no-both}
use Rattle.lpis_register_rows.proofs.ShapeLemmas.{order-ids, read-shapes}
use Rattle.lpis_lineage.specs.Order.{IsAscending}
use Rattle.lpis_register_rows.specs.Shapes.{IsLive, Shape, shape_ids}
use Rattle.lpis_register_rows.specs.private.Known.{AreAmong, HasId}
use Rattle.lpis_register_rows.proofs.shapes.shapes_of.Goals as goal

pub returns-in_err-shapes-clause-unlawful : goal.returns-in_err-shapes-clause-unlawful
returns-in_err-shapes-clause-unlawful c =
    let p = err_from_is_err_and c.from_residual.result c.from_residual.ensures.1 in
    rw (p.1, p.2) (λ e stand. c.in_err-shapes.ensures.refused e stand.1.order stand.1.spelled
    (order-ids (last_live c.args.history.now) c.args.texts.items stand.0 stand.1 stand.2))

pub returns-then-not-ascend-clause-unlawful : goal.returns-then-not-ascend-clause-unlawful
returns-then-not-ascend-clause-unlawful c = λ _ stand.
    let same = read-shapes (λ text members. (c.function_of_text.ensures.polygon text members).0) c.args.texts.items c.in_ok-shapes.shapes.items c.sort.new.rows.items stand.0
    c.in_ok-shapes.ensures.spelled c.sort.ensures.same c.sort.ensures.sorted stand.1 in
    let up = subst (λ (l : List Shape). IsAscending (shape_ids l)) (sym same) stand.1.ascend in
    no-both c.ascend.result (c.ascend.ensures.1 (rw c.as_slice.ensures.value up)) c.if-not-ascend.true

pub returns-then-not-are_live-clause-unlawful : goal.returns-then-not-are_live-clause-unlawful
returns-then-not-are_live-clause-unlawful c = λ _ stand.
    let same = read-shapes (λ text members. (c.function_of_text.ensures.polygon text members).0) c.args.texts.items c.in_ok-shapes.shapes.items c.sort.new.rows.items stand.0
    c.in_ok-shapes.ensures.spelled c.sort.ensures.same c.sort.ensures.sorted stand.1 in
    let among = all-map (IsLive (last_live c.args.history.now)) _ stand.0 (λ s it. it.1) stand.2 in
    no-both c.are_live.result (c.are_live.ensures.1 (rw c.as_slice-2.ensures.value (subst (AreAmong (last_live c.args.history.now)) (sym same) among))) c.if-not-are_live.true

pub returns-clause-live : goal.returns-clause-live
returns-clause-live c =
    let ids = all-moved HasId c.in_ok-shapes.shapes.items c.sort.new.rows.items c.sort.ensures.same c.in_ok-shapes.ensures.ids in
    let among = rw c.as_slice-2.ensures.value at (c.are_live.ensures.0 c.if-not-are_live.false) in
    all-both HasId _ (IsLive (last_live c.args.history.now)) c.sort.new.rows.items (λ s id live. (id, live)) ids among
