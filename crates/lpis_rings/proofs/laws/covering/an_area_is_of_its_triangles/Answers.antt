use Rattle.lpis_rings.proofs.AreaByTrianglesLemmas.{area_is_of_its_triangles, area_is_positive}
use Rattle.lpis_rings.proofs.laws.covering.an_area_is_of_its_triangles.Goals as goal

pub returns : goal.returns
returns c = record { sum = area_is_of_its_triangles; positive = area_is_positive }
