use Rattle.std.proofs.Common.{ℕ, List, ◌∙◌, sym, ap}
use Rattle.std.specs.Str.{bytes_eq}
use Rattle.lpis_country.proofs.ReadingLemmas.{no_head, other_head}
use Rattle.lpis_country.proofs.reading.after_head.Goals as goal

pub returns-in_default-clause-err : goal.returns-in_default-clause-err
returns-in_default-clause-err c = no_head c.args.text.now c.in_default.ensures

pub returns-else-eq-clause-err : goal.returns-else-eq-clause-err
returns-else-eq-clause-err c =
    other_head c.args.text.now c.in-Some.line.now c.in-Some.rest.now c.in-Some.ensures
    (ap (λ (w : List ℕ). bytes_eq c.in-Some.line.now w) (sym c.as_bytes.ensures.value) ∙ sym c.eq.ensures ∙ c.if-eq.false)
