use Rattle.std.proofs.Common.{◌≡◌, ◌∙◌, ◌++◌, ◌∷◌, [], List, ap, arith, length, refl, rules, subst, sym}
use Rattle.std.specs.List.{AllZip}
use Rattle.std.specs.Vec.Iter.{into_iter_items, into_iter_len}
use Rattle.lpis_register_rows.proofs.Common.{err_from_is_err_and, AllByRecursion}
use Rattle.lpis_register_rows.proofs.ShapeLemmas.{all-push, zip-among, zip-push}
use Rattle.lpis_register_rows.proofs.TakingLemmas.{all_read, one_read}
use Rattle.lpis_register_rows.specs.Content.{StoredText}
use Rattle.lpis_register_rows.specs.Shapes.{IsTextOfShape}
use Rattle.lpis_register_rows.specs.private.Known.{HasId}
use Rattle.lpis_register_rows.proofs.shapes.told_shapes.Goals as goal

pub loop-text-init : goal.loop-text-init
loop-text-init c =
    let made = c.into_iter-text-iterator.result in
    let none : c.in_ok-shapes.shapes.items ≡ [] = search rules in
    let counted : into_iter_len made ≡ length (into_iter_items made) = search rules in
    (([], refl, subst (AllZip IsTextOfShape []) (sym none) tt), subst (AllByRecursion HasId) (sym none) tt, counted)

pub returns-in_err-shape-clause-refused : goal.returns-in_err-shape-clause-refused
returns-in_err-shape-clause-refused c =
    let p = err_from_is_err_and c.from_residual-in_err-shape.result c.from_residual-in_err-shape.ensures.1 in
    let inv = c.loop-text.invariant.0 in
    let rest = into_iter_items c.next.new.self in
    let whole : inv.0 ++ c.in-Some.text ∷ rest ≡ c.args.texts.items = ap (λ l. inv.0 ++ l) (sym c.in-Some.ensures.steps.0) ∙ inv.1 ∙ c.into_iter-text-iterator.ensures.into_iter_gives.0 in
    rw (p.1, p.2) (λ e order z all.
    let found = zip-among IsTextOfShape HasId inv.0 c.in-Some.text rest order (subst (λ (l : List StoredText). AllZip IsTextOfShape l order) (sym whole) z) all in
    c.in_err-shape.ensures.refused e found.0 found.1 found.2)

pub loop-text-preserved : goal.loop-text-preserved
loop-text-preserved c =
    let at = c.loop-text in
    let inv = at.invariant.0 in
    let x = c.in-Some.text in
    let steps : into_iter_items at.text-iterator ≡ x ∷ into_iter_items c.next.new.self = c.in-Some.ensures.steps.0 in
    let more = zip-push IsTextOfShape inv.0 at.shapes.items x c.in_ok-shape.shape inv.2 c.in_ok-shape.ensures.spelled in
    let alive = all-push HasId at.shapes.items c.in_ok-shape.shape at.invariant.1 c.in_ok-shape.ensures.id in (
      (
        inv.0 ++ x ∷ [],
        one_read inv.0 _ (into_iter_items c.next.new.self) _ x steps inv.1,
        subst (AllZip IsTextOfShape (inv.0 ++ x ∷ [])) (sym c.in_ok-push.ensures.items) more,
      ),
      subst (AllByRecursion HasId) (sym c.in_ok-push.ensures.items) alive,
      let was = at.invariant.2 in
          let gone = c.in-Some.ensures.steps.1 in
          let short = ap length steps in
          omega arith,
    )

pub returns-clause-spelled : goal.returns-clause-spelled
returns-clause-spelled c =
    let at = c.loop-text in
    let inv = at.invariant.0 in
    let whole : inv.0 ≡ c.args.texts.items =
    all_read inv.0 _ _ (sym at.invariant.2 ∙ c.in-None.ensures.steps.0) inv.1 ∙ c.into_iter-text-iterator.ensures.into_iter_gives.0 in
    subst (λ (l : List StoredText). AllZip IsTextOfShape l at.shapes.items) whole inv.2
