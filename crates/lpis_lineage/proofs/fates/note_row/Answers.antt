use Rattle.std.proofs.Common.{◌∙◌, sym, ap, refl, List, ℕ, true, false, cond, Option}
use Rattle.lpis_lineage.proofs.Common.{has_id, same_id, is_this}
use Rattle.lpis_lineage.proofs.IdentifierLemmas.{same-refl}
use Rattle.lpis_lineage.proofs.FateLemmas.{fates-end, fates-successor}
use Rattle.lpis_lineage.proofs.fates.note_row.Goals as goal

pub returns-in_ok-add-in-None : goal.returns-in_ok-add-in-None
returns-in_ok-add-in-None c = λ all before tally named are. fates-end _ _ all before c.args.fates.now _ c.args.row.now are c.in-None.is
    (λ q. c.in_ok-add-in-None.ensures.ok q
    ∙ ap (λ (k : List ℕ). cond (same_id k q) true (has_id c.args.fates.now.ended q)) c.in_ok-old-in-None.ensures) refl refl

pub returns-in_ok-add-in-Some : goal.returns-in_ok-add-in-Some
returns-in_ok-add-in-Some c = λ all before tally named are.
    let there = named c.in-Some.successor (ap (λ (o : Option (List ℕ)). is_this c.in-Some.successor o) c.in-Some.is ∙ same-refl c.in-Some.successor) in
    fates-successor _ _ all before c.args.fates.now _ c.args.row.now c.in-Some.successor true are c.in-Some.is
    (sym c.if-shares.true ∙ c.shares.ensures all tally there) refl
    (c.in_ok-note-in-Some.ensures _ are.olds_are)
    (λ q. c.in_ok-add-in-Some.ensures.ok q ∙ ap (λ (k : List ℕ). cond (same_id k q) true (has_id c.args.fates.now.shared q)) c.in_ok-old-in-Some.ensures)

pub returns-else-shares : goal.returns-else-shares
returns-else-shares c = λ all before tally named are.
    let there = named c.in-Some.successor (ap (λ (o : Option (List ℕ)). is_this c.in-Some.successor o) c.in-Some.is ∙ same-refl c.in-Some.successor) in
    fates-successor _ _ all before c.args.fates.now _ c.args.row.now c.in-Some.successor false are c.in-Some.is
    (sym c.if-shares.false ∙ c.shares.ensures all tally there) refl
    (c.in_ok-note-in-Some.ensures _ are.olds_are) (λ q. refl)
