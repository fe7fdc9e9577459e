use Rattle.std.proofs.Common.{◌≡◌, []}
use Rattle.lpis_country_seam.specs.private.Kept.{rows_reaching, with_rows}
use Rattle.lpis_country_seam.proofs.keeping.still_kept.Given as goal

abbrev pub invariant-loop-row : goal.invariant-loop-row
invariant-loop-row l = with_rows [] (rows_reaching l.tiles l.fn.kept) ≡ with_rows l.rows (rows_reaching l.tiles l.row-iterator.rest.items)
