use Rattle.std.proofs.Common.{ap₂, List, ℕ}
use Rattle.lpis_country.specs.Country.{country_of, new_parcels}
use Rattle.lpis_country_seam.specs.Faults.{seam_faults}
use Rattle.lpis_run_country.specs.private.Progressing.{setting_at}
use Rattle.lpis_run_country.proofs.PlaceLemmas.{same_places}
use Rattle.lpis_run_country.proofs.RunLemmas.{first_of, goes_at}
use Rattle.lpis_run_country.proofs.TotalsLemmas.{addable, few_places}
use Rattle.lpis_run_country.proofs.progress.follow.Goals as goal

pub report_region-requires-clause-places : goal.report_region-requires-clause-places
report_region-requires-clause-places c =
    let ready = c.requires.ready in
    let news = new_parcels (country_of ready.setting.classes ready.before) c.args.release.now in (
      news,
      same_places c.args.release.now c.as_slice.result.now c.in-Ok.places.items news c.as_slice.ensures.value
          (c.in-Ok.ensures.new ready.setting.tiles ready.setting.classes ready.before ready.at.seam),
    )

pub totals_at-totals-requires-clause-places : goal.totals_at-totals-requires-clause-places
totals_at-totals-requires-clause-places c =
    let ready = c.requires.ready in
    let news = new_parcels (country_of ready.setting.classes ready.before) c.args.release.now in (
      news,
      same_places c.args.release.now c.as_slice-in-Ok.result.now c.in-Ok.places.items news c.as_slice-in-Ok.ensures.value
          (c.in-Ok.ensures.new ready.setting.tiles ready.setting.classes ready.before ready.at.seam),
    )

pub totals_at-totals-requires-clause-few : goal.totals_at-totals-requires-clause-few
totals_at-totals-requires-clause-few c =
    let ready = c.requires.ready in
    let country = country_of ready.setting.classes ready.before in
    few_places country c.args.release.now c.as_slice-in-Ok.result.now
    (same_places c.args.release.now c.as_slice-in-Ok.result.now c.in-Ok.places.items (new_parcels country c.args.release.now) c.as_slice-in-Ok.ensures.value
    (c.in-Ok.ensures.new ready.setting.tiles ready.setting.classes ready.before ready.at.seam)) c.parcels.ensures.few

pub plus-progress-requires : goal.plus-progress-requires
plus-progress-requires c =
    let ready = c.requires.ready in
    let country = country_of ready.setting.classes ready.before in
    let news = new_parcels country c.args.release.now in
    addable country c.args.release.now country.parcels c.args.progress.now.totals c.totals_at-totals.result ready.at.totals
    (c.totals_at-totals.ensures news (same_places c.args.release.now c.as_slice-in-Ok.result.now c.in-Ok.places.items news c.as_slice-in-Ok.ensures.value
    (c.in-Ok.ensures.new ready.setting.tiles ready.setting.classes ready.before ready.at.seam))) c.parcels.ensures.few ready.room

pub gather-requires : goal.gather-requires
gather-requires c =
    let ready = c.requires.ready in
    let news = new_parcels (country_of ready.setting.classes ready.before) c.args.release.now in (
      news,
      same_places c.args.release.now c.as_slice-in-Ok-2.result.now c.in-Ok.places.items news c.as_slice-in-Ok-2.ensures.value
          (c.in-Ok.ensures.new ready.setting.tiles ready.setting.classes ready.before ready.at.seam),
    )

pub returns-in_ok-gather-in-Ok-clause-follows : goal.returns-in_ok-gather-in-Ok-clause-follows
returns-in_ok-gather-in-Ok-clause-follows c = λ texts before at.
    let s = setting_at texts c.args.detail c.args.names.now c.args.progress.now in
    let r = c.args.release.now in
    let country = country_of s.classes before in
    let news = new_parcels country r in
    let places = c.in-Ok.ensures.new s.tiles s.classes before at.seam in (
      c.in-Ok.ensures.reports s.tiles s.classes before at.seam,
      c.in_ok-text-in-Ok.ensures country (same_places r c.as_slice.result.now c.in-Ok.places.items news c.as_slice.ensures.value places),
      goes_at s before r c.args.progress.now (record { seam = c.step.new.self; totals = c.plus-progress.result; gathered = c.gather.new.self }) c.totals_at-totals.result at
          (c.in-Ok.ensures.goes_on s.tiles s.classes before at.seam)
          c.parcels.ensures.few (c.totals_at-totals.ensures news (same_places r c.as_slice-in-Ok.result.now c.in-Ok.places.items news c.as_slice-in-Ok.ensures.value places)) c.plus-progress.ensures
          (c.in_ok-gather-in-Ok.ensures.gathered country.parcels news at.gathered
          (same_places r c.as_slice-in-Ok-2.result.now c.in-Ok.places.items news c.as_slice-in-Ok-2.ensures.value places)),
    )

pub returns-in_ok-refuse_seam-in-Err-clause-follows : goal.returns-in_ok-refuse_seam-in-Err-clause-follows
returns-in_ok-refuse_seam-in-Err-clause-follows c = λ texts before at.
    let s = setting_at texts c.args.detail c.args.names.now c.args.progress.now in (
      c.in-Err.fault,
      first_of (seam_faults s.tiles s.classes before c.args.release.now) c.in-Err.fault (c.in-Err.ensures.reports s.tiles s.classes before at.seam) c.in_ok-refuse_seam-in-Err.ensures.refusal,
      ap₂ (λ (t : List ℕ) (n : ℕ). (t, n)) c.in_ok-refuse_seam-in-Err.ensures.line.0 c.in_ok-refuse_seam-in-Err.ensures.line.1,
    )
