use Rattle.std.proofs.Common.{inl, inr, refl, subst}
use Rattle.std.proofs.lemmas.Result.{err_from_is_err_and}
use Rattle.lpis_run.specs.Folders.{tables_named}
use Rattle.lpis_run.specs.Outputs.{held, writer}
use Rattle.lpis_run.specs.Streams.{Known}
use Rattle.lpis_run.specs.declared.failure.Failure.TheVariants.{Memory}
use Rattle.lpis_run.specs.declared.folder.Tables.{Tables}
use Rattle.lpis_perform.specs.Performance.{RunsCut}
use Rattle.lpis_perform.proofs.OpeningLemmas.{memory_stops}
use Rattle.lpis_perform.proofs.releases.cut.Goals as goal

pub returns-in_err-tables : goal.returns-in_err-tables
returns-in_err-tables g c =
    let p = err_from_is_err_and c.from_residual.result c.from_residual.ensures.1 in
    rw (p.1, p.2) (inr (c.in_err-tables.ensures.failure, refl))

pub returns-in_err-cert : goal.returns-in_err-cert
returns-in_err-cert g c =
    let p = err_from_is_err_and c.from_residual-in_err-cert.result c.from_residual-in_err-cert.ensures.1 in
    let at = g.M.Machine.standing c.args.machine.now in
    rw (p.1, p.2) (inr (memory_stops at (tables_named c.args.tables.now) Memory refl, refl))

pub returns : goal.returns
returns g c =
    let before = held (writer g.M.Created.Write.contents c.in_ok-cert.cert) (g.W.Write.contents c.args.out.now) in
    let after = held (writer g.M.Created.Write.contents c.run_cut.new.cert_out) (g.W.Write.contents c.run_cut.new.out) in
    let run = λ (given : Tables Known). RunsCut given before after c.run_cut.result in
    inl (c.in_ok-tables.ensures.opened, (c.in_ok-cert.cert, c.run_cut.new.cert_out, c.in_ok-cert.ensures, subst run c.in_ok-tables.ensures.given c.run_cut.ensures.runs))
