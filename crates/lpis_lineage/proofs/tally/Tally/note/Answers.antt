use Rattle.std.proofs.Common.{◌∙◌, ap, sym, refl, List, ℕ, cond, true}
use Rattle.lpis_lineage.proofs.Common.{has_id, same_id}
use Rattle.lpis_lineage.proofs.TallyLemmas.{tally-again, tally-new}
use Rattle.lpis_lineage.proofs.tally.Tally.note.Goals as goal

pub returns-in_ok-add : goal.returns-in_ok-add
returns-in_ok-add c = λ ids tally. tally-again c.args.self.now _ ids c.args.id.now tally (sym c.contains.ensures ∙ c.if-contains.true) refl
    (λ q. c.in_ok-add.ensures.ok q ∙ ap (λ (k : List ℕ). cond (same_id k q) true (has_id c.args.self.now.twice q)) c.in_ok-copy.ensures)

pub returns-in_ok-add-2 : goal.returns-in_ok-add-2
returns-in_ok-add-2 c = λ ids tally. tally-new c.args.self.now _ ids c.args.id.now tally (sym c.contains.ensures ∙ c.if-contains.false) refl
    (λ q. c.in_ok-add-2.ensures.ok q ∙ ap (λ (k : List ℕ). cond (same_id k q) true (has_id c.args.self.now.once q)) c.in_ok-copy.ensures)
