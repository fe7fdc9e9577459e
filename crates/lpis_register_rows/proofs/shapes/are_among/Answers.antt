use Rattle.std.proofs.Common.{◌≡◌, ◌∙◌, ◌∷◌, ◌==◌, [], List, ap, length, rules, subst, sym}
use Rattle.lpis_register_rows.specs.Shapes.{Shape}
use Rattle.lpis_register_rows.proofs.AmongLemmas.{Walked, none-left, walked-all, walked-more}
use Rattle.lpis_register_rows.proofs.shapes.are_among.Goals as goal

pub loop-id-preserved : goal.loop-id-preserved
loop-id-preserved c =
    let live = c.args.live.now in
    let all = c.args.shapes.now in
    let steps : c.loop-id.id-iterator ≡ c.in-Some.id.now ∷ c.next.new.self = search rules in
    subst (Walked live c.next.new.self all) (sym c.pass-left.ensures)
    (walked-more live c.in-Some.id.now c.next.new.self all c.loop-id.left.now (subst (λ rest. Walked live rest all c.loop-id.left.now) steps c.loop-id.invariant))

pub returns : goal.returns
returns c =
    let live = c.args.live.now in
    let all = c.args.shapes.now in
    let none : c.loop-id.id-iterator ≡ [] = search rules in
    let both = walked-all live all c.loop-id.left.now (subst (λ rest. Walked live rest all c.loop-id.left.now) none c.loop-id.invariant) in
    (λ is. both.0 (none-left c.loop-id.left.now (sym c.is_empty.ensures ∙ is)), λ among. c.is_empty.ensures ∙ ap (λ (l : List Shape). length l == 0) (both.1 among))
