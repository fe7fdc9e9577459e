use Rattle.std.proofs.Common.{◌∙◌, ◌==◌, ◌-◌, [], ap, arith, length, subst, sym}
use Rattle.lpis_register_rows.proofs.Common.{last_live}
use Rattle.lpis_register_rows.specs.private.Known.{AreAmong}
use Rattle.lpis_register_rows.proofs.AmongLemmas.{among-none, last-none, last-set, none-among, none-left}
use Rattle.lpis_register_rows.proofs.shapes.are_live.Goals as goal

pub returns-in-Some : goal.returns-in-Some
returns-in-Some c =
    let is = c.in-Some.ensures.item in
    let releases = c.releases.result.now in
    let live = last-set releases (length releases - 1) c.in-Some.entry.now (let some = is.3.0 in omega (arith, some)) is.1 ∙ ap last_live c.releases.ensures.list in (
      λ t. subst (λ ids. AreAmong ids c.args.shapes.now) live (c.are_among.ensures.0 t),
      λ among. c.are_among.ensures.1 (subst (λ ids. AreAmong ids c.args.shapes.now) (sym live) among),
    )

pub returns-in-None : goal.returns-in-None
returns-in-None c =
    let none = sym (last-none c.releases.result.now c.in-None.ensures.item.3) ∙ ap last_live c.releases.ensures.list in (
      λ t. subst (λ ids. AreAmong ids c.args.shapes.now) none (none-among [] c.args.shapes.now (none-left c.args.shapes.now (sym c.is_empty.ensures ∙ t))),
      λ among. c.is_empty.ensures ∙ ap (λ l. length l == 0) (among-none _ (subst (λ ids. AreAmong ids c.args.shapes.now) (sym none) among)),
    )
