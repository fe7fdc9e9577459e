use Rattle.lpis_wkt.proofs.OutcomeLemmas.{polygon-answer, answer-polygon, fault-answer, answer-fault}
use Rattle.lpis_wkt.proofs.laws.function_of_text.Goals as goal

pub returns : goal.returns
returns c = record {
  polygon = λ text members. (polygon-answer text members, answer-polygon text members);
  fault = λ text code offset. (fault-answer text code offset, answer-fault text code offset);
}
