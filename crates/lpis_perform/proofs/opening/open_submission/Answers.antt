use Rattle.std.proofs.Common.{◌∷◌, [], inl}
use Rattle.std.proofs.lemmas.Result.{err_from_is_err_and}
use Rattle.lpis_run.specs.Folders.{folder_named}
use Rattle.lpis_run.specs.declared.failure.Name.TheVariants.{Lineage}
use Rattle.lpis_perform.proofs.OpeningLemmas.{open_both, stops_behind, stops_first}
use Rattle.lpis_perform.proofs.opening.open_submission.Goals as goal

pub returns-in_err-folder-clause-failure : goal.returns-in_err-folder-clause-failure
returns-in_err-folder-clause-failure g c =
    let p = err_from_is_err_and c.from_residual.result c.from_residual.ensures.1 in
    let at = g.M.Machine.standing c.args.machine.now in
    rw (p.1, p.2) (stops_first at (folder_named c.args.submission.now.folder) ((Lineage, c.args.submission.now.lineage) ∷ []) _ c.in_err-folder.ensures.failure)

pub returns-in_err-lineage-clause-failure : goal.returns-in_err-lineage-clause-failure
returns-in_err-lineage-clause-failure g c =
    let p = err_from_is_err_and c.from_residual-in_err-lineage.result c.from_residual-in_err-lineage.ensures.1 in
    let at = g.M.Machine.standing c.args.machine.now in
    rw (p.1, p.2)
    (stops_behind at (folder_named c.args.submission.now.folder) ((Lineage, c.args.submission.now.lineage) ∷ []) _ c.in_ok-folder.ensures.opened (inl c.in_err-lineage.ensures.failure))

pub returns-clause-opened : goal.returns-clause-opened
returns-clause-opened g c =
    let at = g.M.Machine.standing c.args.machine.now in
    open_both at (folder_named c.args.submission.now.folder) ((Lineage, c.args.submission.now.lineage) ∷ []) c.in_ok-folder.ensures.opened (c.in_ok-lineage.ensures.opened, tt)
