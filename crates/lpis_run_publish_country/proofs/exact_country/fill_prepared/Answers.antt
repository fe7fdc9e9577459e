use Rattle.std.proofs.Common.{subst}
use Rattle.std.proofs.lemmas.Result.{err_from_is_err_and}
use Rattle.lpis_run.specs.Outputs.{outputs_of, writer}
use Rattle.lpis_run_country.specs.RegionsOutcome.{RegionsJoin}
use Rattle.lpis_run_publish_country.proofs.EndLemmas.{joins_as}
use Rattle.lpis_run_publish_country.proofs.FillingLemmas.{fill_refuses, fill_setting, fill_spent, fill_stops, fill_writes, is_fill_setting}
use Rattle.lpis_run_publish_country.proofs.exact_country.fill_prepared.Goals as goal

pub returns-in_err-country : goal.returns-in_err-country
returns-in_err-country g c = λ given x told h.
    let p = c.args.prepared in
    let s = fill_setting given x p h in
    let old = g.W.Write.contents c.args.out.now in
    let new = g.W.Write.contents c.join_regions.new.out in
    let stops = (joins_as _ s old new _ (is_fill_setting given x p h (g.G.Regions.texts c.args.regions.now) told) c.in_err-country.ensures).failure in
    let e = err_from_is_err_and c.from_residual.result c.from_residual.ensures.1 in
    rw (e.1, e.2) (fill_stops given x p h c.args.register.now.held (writer g.V.Write.contents c.args.file.now) (g.W.Write.contents c.args.out.now) (g.W.Write.contents c.join_regions.new.out) _ stops)

pub returns-in_err-outcome-in-Joined : goal.returns-in_err-outcome-in-Joined
returns-in_err-outcome-in-Joined g c = λ given x told h.
    let p = c.args.prepared in
    let s = fill_setting given x p h in
    let old = g.W.Write.contents c.args.out.now in
    let new = g.W.Write.contents c.join_regions.new.out in
    let (regions, lines, joins, written, joined) = subst (RegionsJoin s old new) c.in-Joined.is
    (joins_as _ s old new _ (is_fill_setting given x p h (g.G.Regions.texts c.args.regions.now) told) c.in_ok-country.ensures).joins in
    let e = err_from_is_err_and c.from_residual-in_err-outcome-in-Joined.result c.from_residual-in_err-outcome-in-Joined.ensures.1 in
    rw (e.1, e.2) (fill_spent given x p h c.args.register.now.held regions lines joins (writer g.V.Write.contents c.args.file.now) old new written)

pub returns-in-Joined : goal.returns-in-Joined
returns-in-Joined g c = λ given x told h.
    let p = c.args.prepared in
    let s = fill_setting given x p h in
    let old = g.W.Write.contents c.args.out.now in
    let mid = g.W.Write.contents c.join_regions.new.out in
    let (regions, lines, joins, written, joined) = subst (RegionsJoin s old mid) c.in-Joined.is
    (joins_as _ s old mid _ (is_fill_setting given x p h (g.G.Regions.texts c.args.regions.now) told) c.in_ok-country.ensures).joins in
    let decided = c.in_ok-outcome-in-Joined.ensures s regions lines h.tables joins joined h.has in
    fill_writes given x p h c.args.register.now.held regions lines joins (writer g.V.Write.contents c.args.file.now) old mid written (outputs_of c.in_ok-outcome-in-Joined.outcome)
    (writer g.V.Write.contents c.write_to.new.cert_out) (g.W.Write.contents c.write_to.new.out) c.write_to.result decided c.write_to.ensures.answer c.write_to.ensures.failure

pub returns : goal.returns
returns g c = λ given x told h.
    let p = c.args.prepared in
    let s = fill_setting given x p h in
    let old = g.W.Write.contents c.args.out.now in
    let new = g.W.Write.contents c.join_regions.new.out in
    let refused = subst (RegionsJoin s old new) c.in-Refused.is (joins_as _ s old new _ (is_fill_setting given x p h (g.G.Regions.texts c.args.regions.now) told) c.in_ok-country.ensures).joins in
    fill_refuses given x p h c.args.register.now.held (writer g.V.Write.contents c.args.file.now) old new c.in-Refused.status refused.0 refused.1
