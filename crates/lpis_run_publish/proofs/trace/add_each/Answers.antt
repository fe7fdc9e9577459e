use Rattle.std.proofs.Common.{◌<◌, ℕ, arith, subst, sym}
use Rattle.std.proofs.lemmas.Slice.Zip.{AllZip-long}
use Rattle.lpis_run_publish.proofs.TraceLemmas.{one-word-more, read-at, words-done}
use Rattle.lpis_run_publish.proofs.trace.add_each.Goals as goal

pub loop-place-init : goal.loop-place-init
loop-place-init g c = λ all left so. so

pub answer_to-requires-clause-within : goal.answer_to-requires-clause-within
answer_to-requires-clause-within g c = subst (λ (n : ℕ). c.loop-place.place < n) (sym (AllZip-long _ c.args.words.now c.args.asked.now c.requires.read)) c.loop-place-test.true

pub answer_to-requires-clause-read : goal.answer_to-requires-clause-read
answer_to-requires-clause-read g c = read-at c.args.words.now c.args.asked.now c.loop-place.place _ c.requires.read c.loop-place-test.true

pub loop-place-preserved : goal.loop-place-preserved
loop-place-preserved g c = λ all left so. one-word-more c.args.register.now.held.history all left c.args.words.now c.loop-place.place _ c.loop-place.text.items c.add_answer.new.text.items
    c.in_ok-answer.answer.text.items
    c.loop-place.status c.in_ok-answer.answer.status c.status_of_two-status.result
    c.loop-place-test.true (c.loop-place.invariant all left so) c.in_ok-answer.ensures c.in_ok-add_answer.ensures c.status_of_two-status.ensures

pub returns : goal.returns
returns g c = λ all left so. words-done c.args.register.now.held.history all left c.args.words.now c.loop-place.place (c.loop-place.text.items, c.loop-place.status)
    (omega (arith, c.loop-place-test.false)) (c.loop-place.invariant all left so)
