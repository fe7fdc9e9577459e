use Rattle.std.proofs.Common.{◌≡◌, drop}
use Rattle.lpis_country_seam.specs.Faults.{reached}
use Rattle.lpis_country_seam.proofs.tiles.first_reached.Given as goal

abbrev pub invariant-loop-k : goal.invariant-loop-k
invariant-loop-k l = reached 0 l.tiles l.parcel ≡ reached l.k (drop l.k l.tiles) l.parcel
