use Rattle.lpis_run_publish.proofs.TraceLemmas.{asked-some}
use Rattle.lpis_run_publish.proofs.trace.answer_to.Goals as goal

pub answer_to_id-requires-clause-traced : goal.answer_to_id-requires-clause-traced
answer_to_id-requires-clause-traced g c = (asked-some c.args.register.now.held.history c.args.asked.now c.args.tracing.now c.args.place c.index-asked-place.result c.in-Some.id c.args.word.now
    c.requires.within c.index-asked-place.is c.in-Some.is c.requires.traced c.requires.read).0
