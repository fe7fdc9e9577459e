use Rattle.std.proofs.Common.{sym, ◌∙◌}
use Rattle.lpis_cert.proofs.ReadLemmas.{no_line, other_version, this_version}
use Rattle.lpis_cert.proofs.reading.after_version.Goals as goal

pub returns-in_default : goal.returns-in_default
returns-in_default c = no_line c.args.bytes.now c.in_default.ensures

pub returns-in-Some-named : goal.returns-in-Some-named
returns-in-Some-named c = this_version c.in-Some-named.version c.in-Some.ensures (sym c.named.ensures ∙ c.in-Some-named.is)

pub returns-in-None : goal.returns-in-None
returns-in-None c = other_version c.in-Some.ensures (sym c.named.ensures ∙ c.in-None.is)
