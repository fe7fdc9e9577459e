use Rattle.std.proofs.Common.{◌≡◌, length, ◌∷◌, ◌++◌, []}
use Rattle.lpis_wkt.proofs.Common.{End, AtKeyword}
use Rattle.lpis_wkt.specs.Tokens.{tokens}
use Rattle.lpis_wkt.specs.private.Machine.{parse_outcome}
use Rattle.lpis_wkt.proofs.reading.parse.Given as goal

abbrev pub invariant-loop-token : goal.invariant-loop-token
invariant-loop-token l = parse_outcome l.parser (l.tokens ++ (length l.text, End) ∷ []) ≡ parse_outcome AtKeyword (tokens l.text)

abbrev pub decreases-loop-token : goal.decreases-loop-token
decreases-loop-token l = length l.tokens
