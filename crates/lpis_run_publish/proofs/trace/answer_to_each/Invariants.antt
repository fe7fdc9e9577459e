use Rattle.std.proofs.Common.{◌≤◌, ◌-◌, drop, length, map}
use Rattle.lpis_run_publish.specs.private.Tracing.{GoesOn}
use Rattle.lpis_run_publish.proofs.trace.answer_to_each.Given as goal

-- the words before those that are left are answered
abbrev pub invariant-words : goal.invariant-words
invariant-words g l = record {
  within : l.done ≤ length l.words;
  so_far : GoesOn l.register.held.history (map (λ w. w.now) l.words) (map (λ w. w.now) (drop l.done l.words)) (l.text.items, l.status);
}

abbrev pub decreases-words : goal.decreases-words
decreases-words g l = length l.words - l.done
