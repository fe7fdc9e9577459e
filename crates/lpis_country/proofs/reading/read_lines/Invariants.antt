use Rattle.std.proofs.Common.{length}
use Rattle.lpis_country.specs.private.Drafts.{IsReading}
use Rattle.lpis_country.proofs.reading.read_lines.Given as goal

abbrev pub invariant-reading : goal.invariant-reading
invariant-reading l = IsReading l.start l.rest l.line l.draft

abbrev pub decreases-reading : goal.decreases-reading
decreases-reading l = length l.rest
