use Rattle.std.proofs.Common.{◌∙◌, ◌≢◌, ap, map, rules, subst}
use Rattle.std.specs.String.{string_bytes}
use Rattle.lpis_register.specs.Accepting.{IsAccepted}
use Rattle.lpis_register.specs.Faults.{IsRefused}
use Rattle.lpis_register.specs.declared.fault.PublishFault.TheVariants.{Memory}
use Rattle.lpis_run_publish_country.specs.PublishCountryAnswer.{union_of}
use Rattle.lpis_run_publish.proofs.Shared.{leaves_untouched}
use Rattle.lpis_run_publish_country.proofs.UnionLemmas.{not_set_aside, union_answered, union_is, union_refused}
use Rattle.lpis_run_publish_country.proofs.publish_country.publish_union.Goals as goal

pub returns-in-Ok : goal.returns-in-Ok
returns-in-Ok g c = λ asked said regions to.
    let old = c.args.register.now in
    let new = c.publish_accepted.new.register in
    let is = union_is asked said regions c.args.year c.args.country.parcels c.args.cert.now.exact _ to.of_year to.joined.parcels_are to.of_blocks (c.as_slice.ensures.value ∙ to.has.rows_are) in
    let made = subst (λ k. IsAccepted k old.held c.in-Ok.accepted) is c.in-Ok.ensures.made in
    let ends = c.publish_accepted.ensures.publishes (union_of asked.year said regions) made in
    record {
      answer = union_answered asked said regions old.held new.held to.lines c.args.country.text.items c.publish_accepted.result to.joins to.joined.text_is ends.answer ends.published;
      leaves = ends.leaves;
    }

pub returns : goal.returns
returns g c = λ asked said regions to.
    let old = c.args.register.now in
    let other : c.in-Err.fault ≢ Memory = search rules in
    let tells = c.in_ok-answer-in-Err.ensures said.tables (c.as_slice-counts.ensures.value ∙ to.has.counts_are) in
    let is = union_is asked said regions c.args.year c.args.country.parcels c.args.cert.now.exact _ to.of_year to.joined.parcels_are to.of_blocks (c.as_slice.ensures.value ∙ to.has.rows_are) in
    record {
      answer = union_refused asked said regions old.held old.held c.in-Err.fault _ c.in_ok-answer-in-Err.answer.text.items
          c.in_ok-answer-in-Err.answer.status (ap (map string_bytes) c.as_slice-in-Err.ensures.value ∙ to.joined.names_are)
          (subst (λ k. IsRefused k old.held c.in-Err.fault) is c.in-Err.ensures.tells)
          (not_set_aside c.in-Err.fault other c.in-Err.ensures.no_store) tells.0 tells.1;
      leaves = leaves_untouched g.S.Store _ old c.in_ok-answer-in-Err.answer;
    }
