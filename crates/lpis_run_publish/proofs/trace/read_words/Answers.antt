use Rattle.lpis_run_publish.proofs.TraceLemmas.{read-more}
use Rattle.lpis_run_publish.proofs.trace.read_words.Goals as goal

pub loop-word-preserved : goal.loop-word-preserved
loop-word-preserved c = read-more c.args.words.now c.loop-word.word-index _ c.as_bytes.result.now c.in_ok-id.id c.loop-word.ids.items _
    c.loop-word-test.true c.loop-word.invariant c.as_bytes.ensures.value c.in_ok-id.ensures.some c.in_ok-id.ensures.none c.in_ok-push.ensures.items
