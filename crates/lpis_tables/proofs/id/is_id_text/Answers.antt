use Rattle.std.proofs.Common.{◌≡◌, length, true, arith, nat_le}
use Rattle.lpis_tables.proofs.Common.{nat_tests}
use Rattle.lpis_tables.proofs.id.is_id_text.Goals as goal

pub returns-then-bytes-le-LONGEST_ID : goal.returns-then-bytes-le-LONGEST_ID
returns-then-bytes-le-LONGEST_ID c =
    let low : nat_le 1 (length c.args.bytes.now) ≡ true = grind (arith, nat_tests) in
    let high : nat_le (length c.args.bytes.now) 40 ≡ true = grind (arith, nat_tests) in
    rw (low, high) c.all_id_bytes.ensures
