use Rattle.std.proofs.Common.{◌≡◌, pos, to_z, w64}
use Rattle.std.proofs.lemmas.Int.{to_z_pos}
use Rattle.lpis_register_sql.proofs.statements.insert_line.Goals as goal

pub returns-clause-makes : goal.returns-clause-makes
returns-clause-makes g c =
    let position : to_z w64 c.args.position ≡ pos c.args.position = to_z_pos w64 c.args.position c.requires.small in
    rw (c.params-to_sql.ensures, c.params-to_sql-2.ensures, c.params-to_sql-3.ensures, c.params-to_sql-4.ensures, position) at c.run.ensures.makes
