use Rattle.lpis_register_sql.proofs.NamedLemmas.{any_of_seven}
use Rattle.lpis_register_sql.proofs.found.is_table_name.Goals as goal

pub returns : goal.returns
returns c =
    rw (← c.same_name-format.ensures, ← c.same_name-release.ensures, ← c.same_name-span.ensures, ← c.same_name-live.ensures, ← c.same_name-row.ensures)
    (rw (← c.same_name-text.ensures, ← c.same_name-mark.ensures)
    (any_of_seven c.same_name-format.result c.same_name-release.result c.same_name-span.result c.same_name-live.result c.same_name-row.result c.same_name-text.result c.same_name-mark.result))
