use Rattle.std.proofs.Common.{Ok, ◌≡◌, ◌<◌, false, sym, ap, ◌∙◌, length, arith, get_or}
use Rattle.lpis_wkt.proofs.Common.{is_word, number, coordinate_decimals, greatest_coordinate}
use Rattle.lpis_wkt.proofs.PointLemmas.{coordinate-ok}
use Rattle.lpis_wkt.proofs.PartLemmas.{found_word}
use Rattle.lpis_wkt.proofs.fast_path.common_coordinate.Goals.{else-found-text-via-then-found-text+else-is_word, else-found-text-via-else-found-text}
use Rattle.lpis_wkt.proofs.fast_path.common_coordinate.Goals as goal

pub returns-clause-word : goal.returns-clause-word
unfolding number
returns-clause-word c =
    let f = c.in_ok-found.found in
    let (word, s) = c.in_ok-found.ensures in
    let stop : f.end < length c.args.text.now → is_word (get_or c.args.text.now f.end 0) ≡ false = elim c.else-found-text.branch [
      | else-found-text-via-then-found-text+else-is_word w ↦ λ lt. sym w.is_word.ensures ∙ w.if-is_word.false
      | else-found-text-via-else-found-text w ↦ λ lt. absurd (omega (arith, w.if-found-text.false))
    ] in (
      word,
      coordinate-ok word c.coordinate.result (s.number ∙ ap Ok (sym c.coordinate.ensures)),
      found_word coordinate_decimals greatest_coordinate c.args.text.now c.args.at f.end f.negative f.size word s stop,
    )
