use Rattle.std.proofs.Common.{◌∙◌, ap, arith, sym}
use Rattle.lpis_register_rows.proofs.Common.{KnownLine}
use Rattle.lpis_register_rows.proofs.KnownLemmas.{known-at, no-both}
use Rattle.lpis_register_rows.proofs.opening.row_at.Goals as goal

pub returns-else-is_at-clause-refused : goal.returns-else-is_at-clause-refused
returns-else-is_at-clause-refused c = λ _ y p.
    let lt = c.requires.within in
    let at = known-at c.args.lines.now c.args.next c.index-lines-next.result (omega (arith, lt)) c.index-lines-next.is in
    no-both c.is_at.result (c.is_at.ensures.1 (sym (ap (λ (l : KnownLine). l.year) at) ∙ y, sym (ap (λ (l : KnownLine). l.position) at) ∙ p)) c.if-is_at.false
