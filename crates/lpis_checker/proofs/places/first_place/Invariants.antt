use Rattle.std.proofs.Common.{ℕ, ◌<◌, slice_get}
use Rattle.lpis_checker.specs.GoodCertificate.{SideBySide}
use Rattle.lpis_checker.proofs.places.first_place.Given as goal

abbrev pub invariant-loop-index : goal.invariant-loop-index
invariant-loop-index g l = (m : ℕ) → m < l.index → SideBySide (g.P.Places.holds l.places) (slice_get l.items m) (slice_get l.parts m)
