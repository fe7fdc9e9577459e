use Rattle.std.proofs.Common.{◌∙◌, sym}
use Rattle.lpis_tables.proofs.ClassLemmas.{class-told}
use Rattle.lpis_tables.proofs.class_table.ClassTableRow.read.Goals as goal

pub returns-in-Ok : goal.returns-in-Ok
returns-in-Ok c = class-told c.args.reader.now.number c.args.reader.now.row c.args.code c.in-Ok.percent _ c.requires.key (sym c.percentage.ensures.is ∙ c.in-Ok.is)
