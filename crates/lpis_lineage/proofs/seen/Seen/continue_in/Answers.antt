use Rattle.std.proofs.Common.{◌∙◌, inr, refl, sym, ap, List, ℕ, cond, true, not}
use Rattle.lpis_lineage.proofs.Common.{has_id, same_id, first}
use Rattle.lpis_lineage.proofs.CleanLemmas.{first-told, told-skip, told-none}
use Rattle.lpis_lineage.proofs.SeenLemmas.{doubled-successor, clash-successor-set, seen-successor, one-pair}
use Rattle.lpis_lineage.proofs.seen.Seen.continue_in.Goals as goal

pub returns-then-not-is_new-clause-tells : goal.returns-then-not-is_new-clause-tells
returns-then-not-is_new-clause-tells c = λ before seen.
    let doubled = doubled-successor c.args.self.now before c.args.row.now _ _ _ _ seen c.requires c.in_ok-old.ensures c.in_ok-new.ensures c.in_ok-is_new.ensures.added in
    inr (first-told _ _ _ (doubled ∙ ap not c.if-not-is_new.true))

pub returns-then-contains-clause-tells : goal.returns-then-contains-clause-tells
returns-then-contains-clause-tells c = λ before seen.
    let doubled = doubled-successor c.args.self.now before c.args.row.now _ _ _ _ seen c.requires c.in_ok-old.ensures c.in_ok-new.ensures c.in_ok-is_new.ensures.added in
    let clash = clash-successor-set c.args.self.now before c.args.row.now _ seen c.requires in
    inr (ap first (told-skip _ _ _ (doubled ∙ ap not c.if-not-is_new.false)) ∙ first-told _ _ _ (sym clash ∙ sym c.contains.ensures ∙ c.if-contains.true))

pub returns-clause-tells : goal.returns-clause-tells
returns-clause-tells c = λ before seen.
    let doubled = doubled-successor c.args.self.now before c.args.row.now _ _ _ _ seen c.requires c.in_ok-old.ensures c.in_ok-new.ensures c.in_ok-is_new.ensures.added in
    let clash = clash-successor-set c.args.self.now before c.args.row.now _ seen c.requires in
    told-none _ _ _ (doubled ∙ ap not c.if-not-is_new.false) (told-none _ _ _ (sym clash ∙ sym c.contains.ensures ∙ c.if-contains.false) refl)

pub returns-clause-seen : goal.returns-clause-seen
returns-clause-seen c = λ before seen. seen-successor c.args.self.now _ before c.args.row.now c.args.successor.now seen c.requires
    refl (λ q. c.in_ok-add.ensures.ok q
    ∙ ap (λ (k : List ℕ). cond (same_id k q) true (has_id c.args.self.now.continued q)) c.in_ok-old-2.ensures)
    (one-pair _ _ _ _ c.args.self.now.named_successors.keys
    c.insert.new.self.keys c.in_ok-old.ensures c.in_ok-new.ensures c.in_ok-is_new.ensures.updates.0)
