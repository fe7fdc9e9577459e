use Rattle.lpis_cert.proofs.FastPathLemmas.{first_byte}
use Rattle.lpis_cert.proofs.fast_path.skip.Goals as goal

pub returns-then-first-byte : goal.returns-then-first-byte
returns-then-first-byte c = first_byte c.args.text.now c.args.byte c.in-len1-up.len_at_least c.if-first-byte.true
