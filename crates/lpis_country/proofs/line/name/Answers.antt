use Rattle.std.proofs.Common.{rules}
use Rattle.lpis_country.proofs.LineLemmas.{name_utf8}
use Rattle.lpis_country.proofs.line.name.Goals as goal

pub unreachable-requires : goal.unreachable-requires
unreachable-requires c = ((rw c.in-Err.is at c.from_utf8.ensures.cases).0) (name_utf8 c.args.word.now (search rules))
