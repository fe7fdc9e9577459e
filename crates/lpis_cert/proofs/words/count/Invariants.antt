use Rattle.std.proofs.Common.{◌≡◌, ◌≤◌, false, drop}
use Rattle.lpis_cert.proofs.SplittingLemmas.{gaps}
use Rattle.lpis_cert.proofs.words.count.Given as goal

abbrev pub invariant-loop-b : goal.invariant-loop-b
invariant-loop-b l = (l.gaps ≤ l.b-index) × (gaps l.in_word l.gaps (drop l.b-index l.line) ≡ gaps false 0 l.line)
