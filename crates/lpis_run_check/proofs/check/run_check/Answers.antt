use Rattle.std.proofs.lemmas.Result.{IfErr-weaker}
use Rattle.lpis_run.specs.declared.failure.Name.TheVariants.{Out}
use Rattle.lpis_run.proofs.Shared.{write_names_none}
use Rattle.lpis_run_check.proofs.FolderLemmas.{folder_unnamed}
use Rattle.lpis_run_check.proofs.check.run_check.Goals as goal

pub returns-clause-untouched : goal.returns-clause-untouched
returns-clause-untouched g c =
    IfErr-weaker c.write_to.result _ _ (λ f part. folder_unnamed c.args.folder.now c.decide.new.folder f c.decide.ensures.named (write_names_none Out f part.0)) c.write_to.ensures.failure
