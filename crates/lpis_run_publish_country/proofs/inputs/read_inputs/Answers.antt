use Rattle.std.proofs.lemmas.Result.{err_from_is_err_and}
use Rattle.lpis_run_publish_country.proofs.InputsLemmas.{exact_unread, top_unread}
use Rattle.lpis_run_publish_country.proofs.inputs.read_inputs.Goals as goal

pub returns-in_err-country-clause-untouched : goal.returns-in_err-country-clause-untouched
returns-in_err-country-clause-untouched g c =
    let p = err_from_is_err_and c.from_residual.result c.from_residual.ensures.1 in
    rw (p.1, p.2) (top_unread c.args.top.now c.read_top.new.top c.args.exact.now _ c.in_err-country.ensures.untouched)

pub returns-in_err-exact-clause-untouched : goal.returns-in_err-exact-clause-untouched
returns-in_err-exact-clause-untouched g c =
    let p = err_from_is_err_and c.from_residual-in_err-exact.result c.from_residual-in_err-exact.ensures.1 in
    rw (p.1, p.2) (exact_unread c.args.top.now c.read_top.new.top c.args.exact.now c.read_cert.new.cert _ _ c.read_cert.ensures.named c.in_err-exact.ensures.failure)
