use Rattle.std.proofs.Common.{inr}
use Rattle.lpis_page.proofs.cut.lpis_cut.Goals as goal

pub returns-in-Ok-clause-needed : goal.returns-in-Ok-clause-needed
returns-in-Ok-clause-needed c refused =
    let cut = c.in-Ok.cut in
    let given = c.hand_over.ensures in
    inr (cut.line.status, cut.cert.items, cut.line.text.items, c.in-Ok.ensures, given.cert_length, given.length, given.longer refused)
