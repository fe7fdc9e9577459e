use Rattle.std.proofs.Common.{◌≡◌, ◌∙◌, ◌-◌, ap, arith, List, Option, Some, None, Bor, length, IfSome}
use Rattle.lpis_lineage.proofs.Common.{Entry, last_live, last_year}
use Rattle.std.specs.Slice.{IsGetResult}
use Rattle.lpis_lineage.proofs.ExtensionLemmas.{last-entry}
use Rattle.lpis_lineage.proofs.history.History.last_entry.Goals as goal

-- what is lent is the last release
lent : (h items : List Entry) (r : Option (Bor Entry)) → items ≡ h → IsGetResult items 0 (length items - 1) r → IfSome r (λ e. (e.now.year ≡ last_year h) × (e.now.live ≡ last_live h))
lent h items None same is = tt
lent h items (Some e) same is =
    let found = last-entry items (length items - 1) e.now (let some = is.3.0 in omega (arith, some)) is.1 in
    (found.0 ∙ ap last_year same, found.1 ∙ ap last_live same)

pub returns-clause-some : goal.returns-clause-some
returns-clause-some c = lent c.args.self.now _ _ (c.deref.ensures.value ∙ c.self.view_is) c.last.ensures.item
