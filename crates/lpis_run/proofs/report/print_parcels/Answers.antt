use Rattle.std.proofs.Common.{◌≡◌, ◌∙◌, ◌++◌, ◌∷◌, [], List, Some, ap, refl, rules, slice_get, sym, subst, take}
use Rattle.std.proofs.lemmas.List.{take_more}
use Rattle.std.proofs.lemmas.Option.{slice_get_read}
use Rattle.lpis_release.specs.declared.parcel.Parcel.{Parcel}
use Rattle.lpis_run.specs.Areas.{AreasOf}
use Rattle.lpis_run.specs.Report.{parcel_line}
use Rattle.lpis_run.proofs.ReportLemmas.{text-goes-on}
use Rattle.lpis_run.proofs.report.print_parcels.Goals as goal

pub loop-count-init : goal.loop-count-init
loop-count-init g c = (c.none-sum.ensures c.args.release.now, search rules)

pub loop-count-preserved : goal.loop-count-preserved
loop-count-preserved g c =
    let parcels = c.parcels-parcel-items.result.now in
    let count = c.loop-count.count in
    let at = c.loop-count-test.true in
    let known = c.loop-count.invariant in
    let this = subst (λ (ks : List Parcel). slice_get ks count ≡ Some c.parcel-item.result) c.parcels-parcel-items.ensures.parcels
    (slice_get_read parcels _ count c.parcel-item.result refl at c.parcel-item.is) in
    let more = take_more parcels count _ at ∙ ap (λ (k : Parcel). take count parcels ++ k ∷ []) (sym c.parcel-item.is) in (
      subst (λ (ks : List Parcel). AreasOf c.args.release.now ks c.plus-sum.result) (sym more)
          (c.plus-sum.ensures c.args.release.now (take count parcels) (c.parcel-item.result ∷ []) known.0 (c.areas_at-areas.ensures c.parcel-item.result this)),
      text-goes-on (parcel_line c.args.release.now) parcels count c.parcel-item.result _
          (g.W.Write.contents c.args.out.now) (g.W.Write.contents c.loop-count.out)
          (g.W.Write.contents c.print_areas_of.new.out) at c.parcel-item.is known.1
          (c.in_ok-print_areas_of.ensures c.args.release.now (c.areas_at-areas.ensures c.parcel-item.result this)),
    )
