use Rattle.std.proofs.Common.{sym, arith}
use Rattle.std.proofs.lemmas.List.{drop_all}
use Rattle.lpis_cert.proofs.Common.{separator_of}
use Rattle.lpis_cert.proofs.SpellingLemmas.{pair-text}
use Rattle.lpis_cert.proofs.writing.put_pair.Goals as goal

pub returns-clause-written : goal.returns-clause-written
returns-clause-written c =
    rw (
      c.put_byte.ensures.written,
      c.put_number-start-3.ensures.written,
      c.put_number-start-2.ensures.written,
      c.put_number-start.ensures.written,
      c.put_byte-start.ensures.written,
      drop_all 128 c.args.line.now (omega arith),
      c.from.ensures,
      c.from-2.ensures,
      c.from-3.ensures,
    ) (sym (pair-text (separator_of c.args.pair)))
