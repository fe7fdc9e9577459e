use Rattle.std.proofs.Common.{◌≡◌, ◌∙◌, ◌++◌, ◌∷◌, [], ap, ap₂, arith, length, map, refl, rules, sym, take}
use Rattle.std.proofs.lemmas.List.{map-append}
use Rattle.std.specs.Vec.Iter.{into_iter_items, into_iter_len}
use Rattle.sqlite_value.specs.Order.{Row}
use Rattle.lpis_register_rows.proofs.Shared.{all_read, one_read}
use Rattle.lpis_register_sql.specs.StoredTables.{kinds_of}
use Rattle.lpis_register_sql.proofs.InsideLemmas.{item_misfit}
use Rattle.lpis_register_sql.proofs.inside.items_of.Goals as goal

pub loop-row-init : goal.loop-row-init
loop-row-init g c =
    let made = c.into_iter-row-iterator.result in
    let none : c.in_ok-all.all.items ≡ [] = search rules in
    let counted : into_iter_len made ≡ length (into_iter_items made) = search rules in
    (([], refl, rw none refl), counted)

pub returns-in_err-item-clause-misfit : goal.returns-in_err-item-clause-misfit
returns-in_err-item-clause-misfit g c =
    let inv = c.loop-row.invariant.0 in
    let rest = into_iter_items c.next.new.self in
    let whole : c.args.rows.items ≡ inv.0 ++ c.in-Some.row ∷ rest =
    sym (ap (λ l. inv.0 ++ l) (sym c.in-Some.ensures.steps.0) ∙ inv.1 ∙ c.into_iter-row-iterator.ensures.into_iter_gives.0) in
    item_misfit (kinds_of g.T.Stored.table) c.args.rows.items inv.0 rest c.in-Some.row _ c.from_residual-in_err-item.result c.from_residual-in_err-item.ensures.1 whole c.in_err-item.ensures.misfit

pub loop-row-preserved : goal.loop-row-preserved
loop-row-preserved g c =
    let at = c.loop-row in
    let inv = at.invariant.0 in
    let x = c.in-Some.row in
    let columns : Row → Row = take (length (kinds_of g.T.Stored.table)) in
    let steps : into_iter_items at.row-iterator ≡ x ∷ into_iter_items c.next.new.self = c.in-Some.ensures.steps.0 in (
      (
        inv.0 ++ x ∷ [],
        one_read inv.0 _ (into_iter_items c.next.new.self) _ x steps inv.1,
        map-append columns inv.0 (x ∷ []) ∙ ap₂ (λ a b. a ++ b ∷ []) inv.2 c.in_ok-item.ensures.columns
            ∙ sym (ap (map g.T.Stored.columns) c.in_ok-push.ensures.items ∙ map-append g.T.Stored.columns at.all.items (c.in_ok-item.item ∷ [])),
      ),
      let was = at.invariant.1 in
          let gone = c.in-Some.ensures.steps.1 in
          let short = ap length steps in
          omega arith,
    )

pub returns-clause-columns : goal.returns-clause-columns
returns-clause-columns g c =
    let inv = c.loop-row.invariant.0 in
    let whole : inv.0 ≡ c.args.rows.items =
    all_read inv.0 _ _ (sym c.loop-row.invariant.1 ∙ c.in-None.ensures.steps.0) inv.1 ∙ c.into_iter-row-iterator.ensures.into_iter_gives.0 in
    rw whole at inv.2
