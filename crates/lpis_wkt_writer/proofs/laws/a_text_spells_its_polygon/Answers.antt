use Rattle.lpis_wkt_writer.specs.Text.{polygon_text}
use Rattle.lpis_wkt_writer.proofs.SpellingLemmas.{polygon_is_spelled}
use Rattle.lpis_wkt_writer.proofs.laws.a_text_spells_its_polygon.Goals as goal

pub returns-clause-spells : goal.returns-clause-spells
returns-clause-spells c = polygon_is_spelled

pub returns-clause-says : goal.returns-clause-says
returns-clause-says c = λ members is h. (c.function_of_text.ensures.polygon (polygon_text members) members).0 (polygon_is_spelled members is h)
