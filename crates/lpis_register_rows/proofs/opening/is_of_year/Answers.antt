use Rattle.std.proofs.Common.{◌∙◌, ap, sym}
use Rattle.lpis_register_rows.proofs.Common.{KnownLine}
use Rattle.lpis_register_rows.proofs.KnownLemmas.{known-at, known-past, not-below}
use Rattle.lpis_register_rows.proofs.opening.is_of_year.Goals as goal

pub returns-then-next-lines-clause-year : goal.returns-then-next-lines-clause-year
returns-then-next-lines-clause-year c =
    let at = ap (λ (l : KnownLine). l.year) (known-at c.args.lines.now c.args.next c.index-lines-next.result c.if-next-lines.true c.index-lines-next.is) in
    (λ t. at ∙ c.is_of.ensures.0 t, λ e. c.is_of.ensures.1 (sym at ∙ e))

pub returns-else-next-lines-clause-year : goal.returns-else-next-lines-clause-year
returns-else-next-lines-clause-year c = (λ t. not-below c.args.next _ c.if-next-lines.false t, λ e. known-past c.args.lines.now c.args.next c.args.year c.if-next-lines.false e)
