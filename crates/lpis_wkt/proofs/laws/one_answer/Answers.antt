use Rattle.lpis_wkt.proofs.OutcomeLemmas.{some_answer, one_polygon, one_fault, never_both}
use Rattle.lpis_wkt.proofs.laws.one_answer.Goals as goal

pub returns : goal.returns
returns c = record { some = some_answer; one_polygon = one_polygon; one_fault = one_fault; never_both = never_both }
