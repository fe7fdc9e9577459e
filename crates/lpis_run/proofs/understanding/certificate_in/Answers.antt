use Rattle.lpis_run.proofs.understanding.certificate_in.Goals as goal

pub returns-clause-refused : goal.returns-clause-refused
returns-clause-refused c = c.understand_cert.ensures.refused c.args.text.items c.cert_in-read.ensures
