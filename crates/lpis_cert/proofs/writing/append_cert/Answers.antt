use Rattle.lpis_cert.proofs.WriteLemmas.{parts_text_is}
use Rattle.lpis_cert.proofs.writing.append_cert.Goals as goal

pub returns : goal.returns
returns c = let e = parts_text_is c.args.cert.now in rw (← e) c.append_parts.ensures
