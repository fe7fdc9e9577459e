use Rattle.std.proofs.Common.{◌∙◌, sym}
use Rattle.lpis_tables.proofs.ColumnLemmas.{with-mark, without-mark}
use Rattle.lpis_tables.proofs.reader.without_mark.Goals as goal

pub returns-then-starts_with_mark : goal.returns-then-starts_with_mark
returns-then-starts_with_mark c = with-mark c.args.text.now (sym c.starts_with_mark.ensures ∙ c.if-starts_with_mark.true)

pub returns-else-starts_with_mark : goal.returns-else-starts_with_mark
returns-else-starts_with_mark c = without-mark c.args.text.now (sym c.starts_with_mark.ensures ∙ c.if-starts_with_mark.false)
