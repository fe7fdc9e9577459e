use Rattle.std.proofs.Common.{◌≡◌, drop}
use Rattle.lpis_country_seam.specs.private.Kept.{at_places, new_rows, with_rows}
use Rattle.lpis_country_seam.proofs.keeping.with_new.Given as goal

abbrev pub invariant-loop-k : goal.invariant-loop-k
invariant-loop-k l =
    with_rows l.fn.kept (new_rows l.tiles l.release (at_places l.release.parcels l.places))
    ≡ with_rows l.rows (new_rows l.tiles l.release (at_places l.release.parcels (drop l.k l.places)))
