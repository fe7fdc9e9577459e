use Rattle.std.proofs.lemmas.Result.{err_from_is_err_and}
use Rattle.lpis_run.specs.Folders.{folder_by}
use Rattle.lpis_run.specs.Inputs.{tables_of}
use Rattle.lpis_run.proofs.FolderLemmas.{cert_unread, cert_untouched, tables_unread, tables_untouched}
use Rattle.lpis_run.proofs.folder.read_folder.Goals as goal

pub returns-in_err-tables-clause-failure : goal.returns-in_err-tables-clause-failure
returns-in_err-tables-clause-failure g c =
    let p = err_from_is_err_and c.from_residual.result c.from_residual.ensures.1 in
    rw (p.1, p.2) (tables_unread (folder_by g.R.Read.remaining c.args.folder.now) c.in_err-tables.field-0.0 c.in_err-tables.ensures.failure)

pub returns-in_err-tables-clause-untouched : goal.returns-in_err-tables-clause-untouched
returns-in_err-tables-clause-untouched g c =
    let p = err_from_is_err_and c.from_residual.result c.from_residual.ensures.1 in
    rw (p.1, p.2) (tables_untouched c.args.folder.now c.read_tables.new.tables c.in_err-tables.field-0.0 c.in_err-tables.ensures.untouched)

pub returns-in_err-cert-clause-failure : goal.returns-in_err-cert-clause-failure
returns-in_err-cert-clause-failure g c =
    let p = err_from_is_err_and c.from_residual-in_err-cert.result c.from_residual-in_err-cert.ensures.1 in
    rw (p.1, p.2)
    (cert_unread (folder_by g.R.Read.remaining c.args.folder.now) (tables_of c.in_ok-tables.tables) c.in_err-cert.field-0.0 c.in_ok-tables.ensures.read c.in_err-cert.ensures.failure)

pub returns-in_err-cert-clause-untouched : goal.returns-in_err-cert-clause-untouched
returns-in_err-cert-clause-untouched g c =
    let p = err_from_is_err_and c.from_residual-in_err-cert.result c.from_residual-in_err-cert.ensures.1 in
    let given = folder_by g.R.Read.remaining c.args.folder.now in
    rw (p.1, p.2)
    (cert_untouched c.args.folder.now c.read_tables.new.tables c.read_cert.new.cert given.cert c.in_err-cert.field-0.0 c.read_cert.ensures.named c.in_err-cert.ensures.failure)
