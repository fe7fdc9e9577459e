use Rattle.std.proofs.Common.{◌-◌, take, drop, length, get_or, refl, arith}
use Rattle.lpis_cert.proofs.FastPathLemmas.{edge_begins, first_byte}
use Rattle.lpis_cert.proofs.fast_path.leading_edge.Goals as goal

pub returns-in_ok-rest-in-len1-up : goal.returns-in_ok-rest-in-len1-up
returns-in_ok-rest-in-len1-up c =
    let text = c.args.text.now in
    let high = c.if-digit-gt53.false in (
      edge_begins text (take (length text - 1) (drop 1 text)) c.in_ok-rest-in-len1-up.rest.now (get_or text 0 0)
          (first_byte text (get_or text 0 0) c.in-len1-up.len_at_least refl) c.in_ok-rest-in-len1-up.ensures c.if-digit-lt48.false c.if-digit-gt53.false,
      omega (arith, high),
    )
