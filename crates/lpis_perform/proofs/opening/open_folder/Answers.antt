use Rattle.std.proofs.lemmas.Result.{err_from_is_err_and}
use Rattle.lpis_run.specs.Folders.{cert_named, tables_named}
use Rattle.lpis_perform.proofs.OpeningLemmas.{open_both, stops_behind, stops_first}
use Rattle.lpis_perform.proofs.opening.open_folder.Goals as goal

pub returns-in_err-tables-clause-failure : goal.returns-in_err-tables-clause-failure
returns-in_err-tables-clause-failure g c =
    let p = err_from_is_err_and c.from_residual.result c.from_residual.ensures.1 in
    let at = g.M.Machine.standing c.args.machine.now in
    rw (p.1, p.2) (stops_first at (tables_named c.args.folder.now.tables) (cert_named c.args.folder.now.cert) _ c.in_err-tables.ensures.failure)

pub returns-in_err-cert-clause-failure : goal.returns-in_err-cert-clause-failure
returns-in_err-cert-clause-failure g c =
    let p = err_from_is_err_and c.from_residual-in_err-cert.result c.from_residual-in_err-cert.ensures.1 in
    let at = g.M.Machine.standing c.args.machine.now in
    rw (p.1, p.2) (stops_behind at (tables_named c.args.folder.now.tables) (cert_named c.args.folder.now.cert) _ c.in_ok-tables.ensures.opened c.in_err-cert.ensures.failure)

pub returns-clause-opened : goal.returns-clause-opened
returns-clause-opened g c =
    let at = g.M.Machine.standing c.args.machine.now in
    open_both at (tables_named c.args.folder.now.tables) (cert_named c.args.folder.now.cert) c.in_ok-tables.ensures.opened c.in_ok-cert.ensures.opened
