use Rattle.std.proofs.Common.{◌≤◌, length}
use Rattle.lpis_wkt.specs.private.Parsing.{SameOutcome}
use Rattle.lpis_wkt.proofs.parser.Parser.take_points.Given as goal

abbrev pub invariant-loop : goal.invariant-loop
invariant-loop l = SameOutcome l.self l.tokens l.initial.self l.initial.tokens × (length l.tokens ≤ length l.initial.tokens)

abbrev pub decreases-loop : goal.decreases-loop
decreases-loop l = length l.tokens
