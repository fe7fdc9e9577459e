use Rattle.std.proofs.Common.{List, ℕ, subst}
use Rattle.lpis_wkt.specs.Text.{PolygonText}
use Rattle.lpis_wkt_writer.specs.Text.{polygon_text}
use Rattle.lpis_wkt_writer.proofs.SpellingLemmas.{polygon_is_spelled}
use Rattle.lpis_wkt_writer.proofs.laws.a_text_is_of_one_polygon.Goals as goal

pub returns : goal.returns
returns c = λ members members' is h is' h' e.
    c.one_answer.ensures.one_polygon (polygon_text members') members members' (subst (λ (text : List ℕ). PolygonText text members) e (polygon_is_spelled members is h))
    (polygon_is_spelled members' is' h')
