use Rattle.std.proofs.Common.{◌++◌, drop, map, ℕ, List}
use Rattle.lpis_run_publish.specs.private.Tracing.{GoesOn}
use Rattle.lpis_run_publish.proofs.trace.add_each.Given as goal

-- the words so far are answered
abbrev pub invariant-loop-place : goal.invariant-loop-place
invariant-loop-place g l = (all left : List (List ℕ)) → GoesOn l.register.held.history all (map (λ w. w.now) l.words ++ left) (l.initial.text.items, l.so_far)
    → GoesOn l.register.held.history all (map (λ w. w.now) (drop l.place l.words) ++ left) (l.text.items, l.status)
