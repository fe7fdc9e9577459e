use Rattle.std.proofs.Common.{take}
use Rattle.std.specs.List.{AllZip}
use Rattle.lpis_run_publish.specs.private.Tracing.{IsReadAs}
use Rattle.lpis_run_publish.proofs.trace.read_words.Given as goal

-- the words so far were read
abbrev pub invariant-loop-word : goal.invariant-loop-word
invariant-loop-word l = AllZip (λ w id. IsReadAs w.now id) (take l.word-index l.words) l.ids.items
