use Rattle.lpis_points.proofs.PointLemmas.{point_eq, same_point-equality}
use Rattle.lpis_points.proofs.laws.equality.points_with_equal_coordinates_are_equal.Goals as goal

pub returns : goal.returns
returns c = record { coordinates = point_eq; test = same_point-equality }
