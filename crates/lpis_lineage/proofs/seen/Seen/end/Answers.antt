use Rattle.std.proofs.Common.{◌∙◌, inr, refl, sym, ap, List, ℕ, cond, true}
use Rattle.lpis_lineage.proofs.Common.{has_id, same_id, first}
use Rattle.lpis_lineage.proofs.CleanLemmas.{first-told, told-skip, told-none}
use Rattle.lpis_lineage.proofs.SeenLemmas.{doubled-end, clash-end-set, seen-end}
use Rattle.lpis_lineage.proofs.seen.Seen.end.Goals as goal

pub returns-then-contains-clause-tells : goal.returns-then-contains-clause-tells
returns-then-contains-clause-tells c = λ before seen. inr (first-told _ _ _ (sym (doubled-end c.args.self.now before c.args.row.now seen c.requires) ∙ sym c.contains.ensures ∙ c.if-contains.true))

pub returns-then-contains-2-clause-tells : goal.returns-then-contains-2-clause-tells
returns-then-contains-2-clause-tells c = λ before seen. inr (
    ap first (told-skip _ _ _ (sym (doubled-end c.args.self.now before c.args.row.now seen c.requires) ∙ sym c.contains.ensures ∙ c.if-contains.false))
    ∙ first-told _ _ _ (sym (clash-end-set c.args.self.now before c.args.row.now seen c.requires) ∙ sym c.contains-2.ensures ∙ c.if-contains-2.true))

pub returns-clause-tells : goal.returns-clause-tells
returns-clause-tells c = λ before seen.
    told-none _ _ _ (sym (doubled-end c.args.self.now before c.args.row.now seen c.requires) ∙ sym c.contains.ensures ∙ c.if-contains.false)
    (told-none _ _ _ (sym (clash-end-set c.args.self.now before c.args.row.now seen c.requires) ∙ sym c.contains-2.ensures ∙ c.if-contains-2.false) refl)

pub returns-clause-seen : goal.returns-clause-seen
returns-clause-seen c = λ before seen. seen-end c.args.self.now _ before c.args.row.now seen c.requires
    (λ q. c.in_ok-add.ensures.ok q ∙ ap (λ (k : List ℕ). cond (same_id k q) true (has_id c.args.self.now.ended q))
    c.in_ok-old.ensures) refl refl
