use Rattle.lpis_run_publish.proofs.publish.answer_to_submission.Goals as goal

pub returns-clause-published : goal.returns-clause-published
returns-clause-published g c = rw c.as_slice.ensures.value at c.answer_to_release.ensures.published

pub returns-clause-leaves : goal.returns-clause-leaves
returns-clause-leaves g c = rw c.as_slice.ensures.value at c.answer_to_release.ensures.leaves
