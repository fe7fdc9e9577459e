use Rattle.std.proofs.Common.{◌≡◌, Some, drop, filter, flat_map, map, take}
use Rattle.std.specs.List.{slice_get}
use Rattle.lpis_country_seam.specs.private.Testing.{is_fresh, tested_row}
use Rattle.lpis_country_seam.proofs.testing.check_rows.Given as goal

abbrev pub invariant-loop-k : goal.invariant-loop-k
invariant-loop-k l =
    (flat_map (tested_row l.known.tiles.now l.known.n l.known.ids.now l.known.kept.now l.release) l.release.parcels
    ≡ flat_map (tested_row l.known.tiles.now l.known.n l.known.ids.now l.known.kept.now l.release) (drop l.k l.release.parcels))
    × (map (slice_get l.release.parcels) l.places.items ≡ map Some (filter (is_fresh l.known.ids.now) (take l.k l.release.parcels)))
