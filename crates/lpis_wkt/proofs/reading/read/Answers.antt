use Rattle.lpis_wkt.specs.Answer.{Gives, polygon_of}
use Rattle.lpis_wkt.proofs.OutcomeLemmas.{gives, is_polygon_text, is_only, is_fault}
use Rattle.lpis_wkt.proofs.reading.read.Goals as goal

pub returns : goal.returns
returns c =
    let given : Gives c.parse.result (polygon_of c.args.text.now) = gives c.args.text.now c.parse.result (rw c.as_bytes.ensures.value at c.parse.ensures) in
    record {
      polygon = is_polygon_text c.args.text.now c.parse.result given;
      only = is_only c.args.text.now c.parse.result given;
      fault = is_fault c.args.text.now c.parse.result given;
      gives = given;
    }
