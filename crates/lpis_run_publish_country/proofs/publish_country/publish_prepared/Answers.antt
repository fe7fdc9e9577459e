use Rattle.std.proofs.Common.{◌∙◌, ap, refl, subst, sym}
use Rattle.std.proofs.lemmas.Result.{err_from_is_err_and}
use Rattle.lpis_run_country.specs.RegionsOutcome.{RegionsJoin}
use Rattle.lpis_run_country.proofs.Shared.{setting_begun}
use Rattle.lpis_run_country.specs.Beginning.{setting_in}
use Rattle.lpis_run_publish.proofs.Shared.{stays_untouched}
use Rattle.lpis_run_publish_country.specs.PublishCountryAnswer.{CountryRequest, setting_said}
use Rattle.lpis_run_publish_country.specs.PublishCountryRuns.{IsUnion}
use Rattle.lpis_run_publish_country.specs.private.Preparing.{said_of}
use Rattle.lpis_run_publish_country.proofs.EndLemmas.{joins_as, runs_refused, runs_stopped_in, runs_union, stop_no_store}
use Rattle.lpis_run_publish_country.proofs.publish_country.publish_prepared.Goals as goal

pub returns-in_err-country : goal.returns-in_err-country
returns-in_err-country g c = λ given x texts p.
    let old = c.args.register.now in
    let asked : CountryRequest = record { year = c.args.year; given = given; detail = c.args.detail } in
    let said = said_of p.begun.plan c.args.prepared p.tables in
    let s = setting_said given c.args.detail said in
    let is = ap (λ t. setting_in t c.args.detail c.args.prepared.begun) (sym texts) ∙ setting_begun given.texts c.args.detail x.country c.args.prepared.begun p.begun in
    let stop = (joins_as _ s (g.W.Write.contents c.args.out.now) (g.W.Write.contents c.join_regions.new.out) _ is c.in_err-country.ensures).failure in
    let e = err_from_is_err_and c.from_residual.result c.from_residual.ensures.1 in
    rw (e.1, e.2) (runs_stopped_in g.S.Store asked x old old (g.W.Write.contents c.args.out.now) (g.W.Write.contents c.join_regions.new.out) said p.said
    _ refl (stays_untouched g.S.Store (IsUnion asked x) old _ (stop_no_store s _ _ _ stop)) stop)

pub returns-in-Joined : goal.returns-in-Joined
returns-in-Joined g c = λ given x texts p.
    let asked : CountryRequest = record { year = c.args.year; given = given; detail = c.args.detail } in
    let said = said_of p.begun.plan c.args.prepared p.tables in
    let s = setting_said given c.args.detail said in
    let is = ap (λ t. setting_in t c.args.detail c.args.prepared.begun) (sym texts) ∙ setting_begun given.texts c.args.detail x.country c.args.prepared.begun p.begun in
    let start = g.W.Write.contents c.args.out.now in
    let now = g.W.Write.contents c.join_regions.new.out in
    let (regions, lines, all, written, joined) = subst (λ r. RegionsJoin s start now r) c.in-Joined.is (joins_as _ s start now _ is c.in_ok-country.ensures).joins in
    runs_union g.S.Store asked x c.args.register.now c.end_union.new.register start (g.W.Write.contents c.end_union.new.out) said p.said regions lines now all.have_passed written
    c.end_union.result (c.end_union.ensures asked said regions (record { lines = lines; joins = all; joined = joined; of_year = refl; of_blocks = refl; has = p.has }))

pub returns : goal.returns
returns g c = λ given x texts p.
    let old = c.args.register.now in
    let asked : CountryRequest = record { year = c.args.year; given = given; detail = c.args.detail } in
    let said = said_of p.begun.plan c.args.prepared p.tables in
    let s = setting_said given c.args.detail said in
    let is = ap (λ t. setting_in t c.args.detail c.args.prepared.begun) (sym texts) ∙ setting_begun given.texts c.args.detail x.country c.args.prepared.begun p.begun in
    let start = g.W.Write.contents c.args.out.now in
    let now = g.W.Write.contents c.join_regions.new.out in
    runs_refused g.S.Store asked x old old start now said p.said c.in-Refused.status refl
    (stays_untouched g.S.Store (IsUnion asked x) old _ tt) (subst (λ r. RegionsJoin s start now r) c.in-Refused.is (joins_as _ s start now _ is c.in_ok-country.ensures).joins)
