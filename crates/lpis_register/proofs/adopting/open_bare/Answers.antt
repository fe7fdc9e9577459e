use Rattle.std.proofs.lemmas.Result.{err_from_is_err_and}
use Rattle.lpis_register.proofs.OpeningLemmas.{bare_fails, bare_opens}
use Rattle.lpis_register.proofs.adopting.open_bare.Goals as goal

pub returns-in_err-settle-clause-opens : goal.returns-in_err-settle-clause-opens
returns-in_err-settle-clause-opens g c =
    let p = err_from_is_err_and c.from_residual.result c.from_residual.ensures.1 in
    rw (p.1, p.2) (bare_fails g.S.Store c.args.conn.now c.args.found.now c.requires.there c.requires.seen c.settle.new.conn c.requires.none c.none-told.result
    c.none-told.ensures.history c.none-told.ensures.shapes _ c.in_err-settle.ensures.settles)

pub returns-clause-opens : goal.returns-clause-opens
returns-clause-opens g c =
    bare_opens g.S.Store c.args.conn.now c.args.found.now c.requires.there c.requires.seen c.settle.new.conn c.requires.none c.none-told.result c.none-told.ensures.history c.none-told.ensures.shapes _
    c.in_ok-settle.ensures.settles
