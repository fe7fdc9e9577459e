use Rattle.std.proofs.Common.{◌∷◌, []}
use Rattle.std.proofs.lemmas.Result.{err_from_is_err_and}
use Rattle.lpis_run.specs.Folders.{folder_by, folder_named}
use Rattle.lpis_run.specs.Inputs.{inputs_of}
use Rattle.lpis_run.specs.declared.failure.Name.TheVariants.{Points}
use Rattle.lpis_run.proofs.Shared.{behind_unread, behind_untouched, unread_first, untouched_first}
use Rattle.lpis_run_locate.proofs.locate.read_all_inputs.Goals as goal

pub returns-in_err-files-clause-failure : goal.returns-in_err-files-clause-failure
returns-in_err-files-clause-failure g c =
    let p = err_from_is_err_and c.from_residual.result c.from_residual.ensures.1 in
    let given = folder_by g.R.Read.remaining c.args.asked.now.files in
    rw (p.1, p.2) (unread_first (folder_named given) ((Points, g.R.Read.remaining c.args.asked.now.points) ∷ []) c.in_err-files.field-0.0 c.in_err-files.ensures.failure)

pub returns-in_err-files-clause-untouched : goal.returns-in_err-files-clause-untouched
returns-in_err-files-clause-untouched g c =
    let p = err_from_is_err_and c.from_residual.result c.from_residual.ensures.1 in
    let old = c.args.asked.now in
    rw (p.1, p.2) (untouched_first (folder_named old.files) (folder_named c.read_folder.new.folder) ((Points, old.points) ∷ []) c.in_err-files.field-0.0 c.in_err-files.ensures.untouched)

pub returns-in_err-points-clause-failure : goal.returns-in_err-points-clause-failure
returns-in_err-points-clause-failure g c =
    let p = err_from_is_err_and c.from_residual-in_err-points.result c.from_residual-in_err-points.ensures.1 in
    let given = folder_by g.R.Read.remaining c.args.asked.now.files in
    rw (p.1, p.2)
    (behind_unread given (inputs_of c.in_ok-files.files) Points (g.R.Read.remaining c.args.asked.now.points) c.in_err-points.field-0.0 c.in_ok-files.ensures.read c.in_err-points.ensures.failure)

pub returns-in_err-points-clause-untouched : goal.returns-in_err-points-clause-untouched
returns-in_err-points-clause-untouched g c =
    let p = err_from_is_err_and c.from_residual-in_err-points.result c.from_residual-in_err-points.ensures.1 in
    let old = c.args.asked.now in
    rw (p.1, p.2)
    (behind_untouched old.files c.read_folder.new.folder Points old.points c.read_lent.new.reader c.in_err-points.field-0.0 c.read_folder.ensures.named c.in_err-points.ensures.failure
    ((λ is. cc is), (λ is. cc is), (λ is. cc is), (λ is. cc is)))
