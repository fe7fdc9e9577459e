use Rattle.std.proofs.Common.{◌≡◌, drop}
use Rattle.lpis_country_seam.specs.private.Testing.{tested_kept}
use Rattle.lpis_country_seam.proofs.testing.check_kept.Given as goal

abbrev pub invariant-loop-k : goal.invariant-loop-k
invariant-loop-k l = tested_kept l.known.tiles.now l.known.n l.known.kept.now l.release ≡ tested_kept l.known.tiles.now l.known.n (drop l.k l.rows) l.release
