-- The rational point that a `RatPoint` is.
use Rattle.lpis_points.specs.declared.rational.RatPoint.{RatPoint}
use Rattle.lpis_points.specs.Plane.{RationalPoint}

abbrev pub rational_of : RatPoint → RationalPoint
rational_of p = record { x = p.x; y = p.y; d = p.d }
