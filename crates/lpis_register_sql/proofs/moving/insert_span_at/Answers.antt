use Rattle.std.proofs.Common.{w64}
use Rattle.std.proofs.lemmas.Int.{to_z-of_z}
use Rattle.lpis_register_sql.proofs.moving.insert_span_at.Goals as goal

pub returns-clause-makes : goal.returns-clause-makes
returns-clause-makes g c =
    let since = to_z-of_z w64 c.args.since c.ranges.since in
    let until = to_z-of_z w64 c.args.until c.ranges.until in
    rw (c.params-to_sql.ensures, c.params-to_sql-2.ensures, c.params-to_sql-3.ensures, since, until) at c.run.ensures.makes
