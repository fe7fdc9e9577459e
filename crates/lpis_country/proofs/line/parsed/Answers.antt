use Rattle.std.proofs.Common.{ℕ, List, ap, subst, is_err, w64}
use Rattle.std.specs.Str.Parse.{ParsesSigned}
use Rattle.lpis_country.proofs.NumberLemmas.{no_text, not_parsed}
use Rattle.lpis_country.proofs.line.parsed.Goals as goal

pub returns-in_default : goal.returns-in_default
returns-in_default c = no_text c.args.word.now ((rw c.in_default.is at c.from_utf8.ensures.cases).0)

pub returns-in-Err : goal.returns-in-Err
returns-in-Err c =
    not_parsed c.args.word.now c.parse.result (subst (λ (w : List ℕ). ParsesSigned w64 10 w c.parse.result) c.in-Ok.ensures.cases.0 c.parse.ensures.value.0) (ap is_err c.in-Err.is)
