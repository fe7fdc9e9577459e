use Rattle.std.proofs.lemmas.Result.{err_from_is_err_and}
use Rattle.lpis_register.proofs.AcceptingLemmas.{no_store_asking, refused_asking}
use Rattle.lpis_register.specs.Holdings.{candidate, holdings}
use Rattle.lpis_register.proofs.accepting.check_groups.Goals as goal

pub returns-in_err-parts-clause-refused : goal.returns-in_err-parts-clause-refused
returns-in_err-parts-clause-refused c h parcels rows year to shapes later =
    let p = err_from_is_err_and c.from_residual.result c.from_residual.ensures.1 in
    rw (p.1, p.2) (refused_asking (candidate year parcels c.args.cert.now.exact rows) (holdings h c.args.kept.now) later _ (c.in_err-parts.ensures.unkept h parcels rows to))

pub returns-in_err-parts-clause-no_store : goal.returns-in_err-parts-clause-no_store
returns-in_err-parts-clause-no_store c =
    let p = err_from_is_err_and c.from_residual.result c.from_residual.ensures.1 in
    rw (p.1, p.2) (no_store_asking _)
