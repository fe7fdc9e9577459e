use Rattle.std.proofs.Common.{refl}
use Rattle.std.proofs.lemmas.Result.{err_from_is_err_and}
use Rattle.lpis_run.specs.Inputs.{inputs_of}
use Rattle.lpis_run.specs.declared.failure.Failure.TheVariants.{Memory}
use Rattle.lpis_run.proofs.Shared.{memory_names_none}
use Rattle.lpis_run_check.proofs.FolderLemmas.{folder_unnamed}
use Rattle.lpis_run_check.proofs.check.decide.Goals as goal

pub returns-clause-answers : goal.returns-clause-answers
returns-clause-answers g c = (inputs_of c.in_ok-inputs.inputs, c.in_ok-inputs.ensures.read, (c.in_ok-answer.ensures.answer, c.in_ok-answer.ensures.proved))

pub returns-in_err-answer-clause-untouched : goal.returns-in_err-answer-clause-untouched
returns-in_err-answer-clause-untouched g c =
    let p = err_from_is_err_and c.from_residual-in_err-answer.result c.from_residual-in_err-answer.ensures.1 in
    rw (p.1, p.2) (folder_unnamed c.args.folder.now c.read_folder.new.folder Memory c.read_folder.ensures.named (memory_names_none Memory refl))
