use Rattle.std.proofs.Common.{sym, arith}
use Rattle.std.proofs.lemmas.List.{drop_all}
use Rattle.lpis_cert.proofs.Common.{corner_numbers}
use Rattle.lpis_cert.proofs.SpellingLemmas.{corners-text}
use Rattle.lpis_cert.proofs.writing.put_corners.Goals as goal

pub returns-clause-written : goal.returns-clause-written
returns-clause-written c =
    rw (
      c.put_byte.ensures.written,
      c.letter.ensures,
      c.put_point-start-3.ensures.written,
      c.put_point-start-2.ensures.written,
      c.put_point-start.ensures.written,
      c.put_byte-start.ensures.written,
      drop_all 128 c.args.line.now (omega arith),
    ) (sym (corners-text c.args.flat (corner_numbers c.args.t)))
