use Rattle.std.proofs.Common.{◌≡◌, ◌++◌, take}
use Rattle.lpis_cert.specs.private.Written.{pairs_text}
use Rattle.lpis_cert.proofs.writing.append_pairs.Given as goal

abbrev pub invariant-loop-pair : goal.invariant-loop-pair
invariant-loop-pair l = l.out.items ≡ l.fn.out.items ++ pairs_text (take l.pair-index l.pairs)
