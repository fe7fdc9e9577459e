use Rattle.std.proofs.Common.{ℕ, List, IfErr, IfOk, subst}
use Rattle.lpis_cert.proofs.OpenLemmas.{Breaks, Closes}
use Rattle.lpis_cert.proofs.reading.finish_owned.Goals as goal

pub returns-clause-ok : goal.returns-clause-ok
returns-clause-ok c = subst (λ (text : List ℕ). IfOk c.finish.result (Closes c.args.draft c.args.count text c.args.line)) c.as_slice.ensures.value c.finish.ensures.ok

pub returns-clause-err : goal.returns-clause-err
returns-clause-err c = subst (λ (text : List ℕ). IfErr c.finish.result (Breaks c.args.draft c.args.count text c.args.line)) c.as_slice.ensures.value c.finish.ensures.err
