use Rattle.std.proofs.lemmas.Result.{err_from_is_err_and}
use Rattle.lpis_perform.proofs.OpeningLemmas.{cert_unopened, folder_opened, tables_unopened}
use Rattle.lpis_perform.proofs.folders.open_region.Goals as goal

pub returns-in_err-tables-clause-failure : goal.returns-in_err-tables-clause-failure
returns-in_err-tables-clause-failure g c =
    let p = err_from_is_err_and c.from_residual.result c.from_residual.ensures.1 in
    let at = g.M.Machine.standing c.args.machine.now in
    rw (p.1, p.2) (tables_unopened at c.args.folder.now c.tables_in.result _ c.tables_in.ensures c.in_err-tables.ensures.failure)

pub returns-in_err-cert-clause-failure : goal.returns-in_err-cert-clause-failure
returns-in_err-cert-clause-failure g c =
    let p = err_from_is_err_and c.from_residual-in_err-cert.result c.from_residual-in_err-cert.ensures.1 in
    let at = g.M.Machine.standing c.args.machine.now in
    rw (p.1, p.2) (cert_unopened at c.args.folder.now c.cert_in.result _ c.cert_in.ensures c.in_err-cert.ensures.failure)

pub returns-clause-given : goal.returns-clause-given
returns-clause-given g c =
    let at = g.M.Machine.standing c.args.machine.now in
    folder_opened at c.args.folder.now c.tables_in.result c.cert_in.result _ _ c.tables_in.ensures c.cert_in.ensures c.in_ok-tables.ensures.given c.in_ok-cert.ensures.given
