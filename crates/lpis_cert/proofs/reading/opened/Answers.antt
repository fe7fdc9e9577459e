use Rattle.lpis_cert.proofs.OpenLemmas.{opens}
use Rattle.lpis_cert.proofs.reading.opened.Goals as goal

pub returns-clause-ok : goal.returns-clause-ok
returns-clause-ok c =
    let x = c.in_ok-read.ensures.ok in
    let read = c.in_ok-read.read in
    opens c.args.bytes.now c.in_ok-version.version c.in_ok-version.blocks.text.now c.in_ok-version.blocks.line read.0 read.1 x.0 x.1 read.2.text.now read.2.line
    c.in_ok-version.ensures.0 c.in_ok-version.ensures.1 x.2
