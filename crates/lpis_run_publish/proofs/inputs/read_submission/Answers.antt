use Rattle.std.proofs.Common.{◌∷◌, []}
use Rattle.std.proofs.lemmas.Result.{err_from_is_err_and}
use Rattle.lpis_run.specs.Folders.{folder_by, folder_named}
use Rattle.lpis_run.specs.Inputs.{inputs_of}
use Rattle.lpis_run.specs.declared.failure.Name.TheVariants.{Lineage}
use Rattle.lpis_run.proofs.Shared.{behind_unread, behind_untouched, unread_first, untouched_first}
use Rattle.lpis_run_publish.proofs.inputs.read_submission.Goals as goal

pub returns-in_err-folder-clause-failure : goal.returns-in_err-folder-clause-failure
returns-in_err-folder-clause-failure g c =
    let p = err_from_is_err_and c.from_residual.result c.from_residual.ensures.1 in
    let given = folder_by g.R.Read.remaining c.args.submission.now.folder in
    rw (p.1, p.2) (unread_first (folder_named given) ((Lineage, g.R.Read.remaining c.args.submission.now.lineage) ∷ []) c.in_err-folder.field-0.0 c.in_err-folder.ensures.failure)

pub returns-in_err-folder-clause-untouched : goal.returns-in_err-folder-clause-untouched
returns-in_err-folder-clause-untouched g c =
    let p = err_from_is_err_and c.from_residual.result c.from_residual.ensures.1 in
    let old = c.args.submission.now in
    rw (p.1, p.2) (untouched_first (folder_named old.folder) (folder_named c.read_folder.new.folder) ((Lineage, old.lineage) ∷ []) c.in_err-folder.field-0.0 c.in_err-folder.ensures.untouched)

pub returns-in_err-lineage-clause-failure : goal.returns-in_err-lineage-clause-failure
returns-in_err-lineage-clause-failure g c =
    let p = err_from_is_err_and c.from_residual-in_err-lineage.result c.from_residual-in_err-lineage.ensures.1 in
    let given = folder_by g.R.Read.remaining c.args.submission.now.folder in
    rw (p.1, p.2)
    (behind_unread given (inputs_of c.in_ok-folder.folder) Lineage (g.R.Read.remaining c.args.submission.now.lineage) c.in_err-lineage.field-0.0 c.in_ok-folder.ensures.read
    c.in_err-lineage.ensures.failure)

pub returns-in_err-lineage-clause-untouched : goal.returns-in_err-lineage-clause-untouched
returns-in_err-lineage-clause-untouched g c =
    let p = err_from_is_err_and c.from_residual-in_err-lineage.result c.from_residual-in_err-lineage.ensures.1 in
    let old = c.args.submission.now in
    rw (p.1, p.2)
    (behind_untouched old.folder c.read_folder.new.folder Lineage old.lineage c.read_lent.new.reader c.in_err-lineage.field-0.0 c.read_folder.ensures.named c.in_err-lineage.ensures.failure
    ((λ is. cc is), (λ is. cc is), (λ is. cc is), (λ is. cc is)))
