use Rattle.std.proofs.Common.{refl}
use Rattle.std.proofs.lemmas.Result.{IfErr-weaker, err_from_is_err_and}
use Rattle.lpis_run.specs.declared.failure.Failure.TheVariants.{Memory}
use Rattle.lpis_run.specs.declared.failure.Name.TheVariants.{Out}
use Rattle.lpis_run.proofs.Shared.{memory_names_none, write_names_none}
use Rattle.lpis_run_locate.proofs.ReaderLemmas.{points_unnamed}
use Rattle.lpis_run_locate.proofs.locate.run_locate.Goals as goal

pub returns-in_err-answer-clause-untouched : goal.returns-in_err-answer-clause-untouched
returns-in_err-answer-clause-untouched g c =
    let p = err_from_is_err_and c.from_residual-in_err-answer.result c.from_residual-in_err-answer.ensures.1 in
    rw (p.1, p.2) (points_unnamed c.args.asked.now c.read_all_inputs.new.asked Memory c.read_all_inputs.ensures.named (memory_names_none Memory refl))

pub returns-clause-untouched : goal.returns-clause-untouched
returns-clause-untouched g c =
    IfErr-weaker c.write_to.result _ _ (λ f part. points_unnamed c.args.asked.now c.read_all_inputs.new.asked f c.read_all_inputs.ensures.named (write_names_none Out f part.0))
    c.write_to.ensures.failure
