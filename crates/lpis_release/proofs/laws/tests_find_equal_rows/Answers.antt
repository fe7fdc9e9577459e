use Rattle.lpis_release.proofs.EqualityLemmas.{same_class-tells, same_pieces-tells, same_polygon-tells}
use Rattle.lpis_release.proofs.laws.tests_find_equal_rows.Goals as goal

pub returns : goal.returns
returns c = record { polygons = same_polygon-tells; pieces = same_pieces-tells; classes = same_class-tells }
