use Rattle.std.proofs.Common.{◌≡◌, ◌<◌, ◌+◌, ℕ, List, Some, filter, get_or, length, map, slice_get, subst, sym, take}
use Rattle.lpis_release.specs.declared.parcel.Parcel.{Parcel}
use Rattle.lpis_country_seam.specs.private.Testing.{is_fresh, tested_row}
use Rattle.lpis_country_seam.proofs.ReportLemmas.{places-more, reports-next, rows-told}
use Rattle.lpis_country_seam.proofs.testing.check_rows.Goals as goal

pub returns-in-Err-clause-reports : goal.returns-in-Err-clause-reports
returns-in-Err-clause-reports c =
    let known = c.args.known.now in
    let release = c.args.release.now in
    let parcel = c.index-parcels-k.result in
    rows-told (tested_row known.tiles.now known.n known.ids.now known.kept.now release) release.parcels c.loop-k.k parcel c.in-Err.fault
    (subst (λ (ps : List Parcel). c.loop-k.k < length ps) c.parcels-parcels.ensures.parcels c.loop-k-test.true)
    (subst (λ (ps : List Parcel). parcel ≡ get_or ps c.loop-k.k parcel) c.parcels-parcels.ensures.parcels c.index-parcels-k.is) c.loop-k.invariant.0 c.in-Err.ensures.reports

pub loop-k-preserved : goal.loop-k-preserved
loop-k-preserved c =
    let known = c.args.known.now in
    let release = c.args.release.now in
    let parcel = c.index-parcels-k.result in
    let l = subst (λ (ps : List Parcel). c.loop-k.k < length ps) c.parcels-parcels.ensures.parcels c.loop-k-test.true in
    let e = subst (λ (ps : List Parcel). parcel ≡ get_or ps c.loop-k.k parcel) c.parcels-parcels.ensures.parcels c.index-parcels-k.is in (
      reports-next (tested_row known.tiles.now known.n known.ids.now known.kept.now release) release.parcels c.loop-k.k parcel l e c.loop-k.invariant.0 c.in-Ok.ensures.reports,
      subst (λ (is : List ℕ). map (slice_get release.parcels) is ≡ map Some (filter (is_fresh known.ids.now) (take (c.loop-k.k + 1) release.parcels))) (sym c.in_ok-add_if-in-Ok.ensures)
          (places-more (is_fresh known.ids.now) release.parcels c.loop-k.places.items c.loop-k.k parcel c.in-Ok.new l e c.in-Ok.ensures.new c.loop-k.invariant.1),
    )
