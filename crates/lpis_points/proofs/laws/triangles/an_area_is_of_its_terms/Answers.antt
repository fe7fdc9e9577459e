use Rattle.lpis_points.proofs.TriangleLemmas.{terms_sum}
use Rattle.lpis_points.proofs.laws.triangles.an_area_is_of_its_terms.Goals as goal

pub returns : goal.returns
returns c = λ t. terms_sum t.a t.b t.c
