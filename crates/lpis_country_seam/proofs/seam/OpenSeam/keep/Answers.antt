use Rattle.std.proofs.Common.{◌∙◌, ◌+◌, ◌-◌, ◌||◌, List, drop, length, refl, take, ap}
use Rattle.std.proofs.lemmas.List.{take_rest}
use Rattle.lpis_points.specs.declared.boxes.Box4.{Box4}
use Rattle.lpis_tables.specs.Ids.{has_id}
use Rattle.lpis_release.specs.declared.parcel.Parcel.{Parcel}
use Rattle.lpis_release.specs.Release.{parcel_ids}
use Rattle.lpis_country_seam.proofs.KeepLemmas.{later-rows, later-thinned}
use Rattle.lpis_country_seam.proofs.seam.OpenSeam.keep.Goals as goal

pub returns : goal.returns
returns c =
    let s = c.args.self.now in
    let tiles = s.tiles.items in
    let m = s.next + 1 in
    let later = ap (λ (ts : List Box4). take (length ts - m) (drop m ts)) c.deref.ensures.value ∙ take_rest tiles m in
    record {
      tiles = refl;
      classes = refl;
      number = refl;
      ids = λ q. c.in_ok-add_ids.ensures q ∙ ap (λ (ps : List Parcel). has_id s.ids q || has_id (parcel_ids ps) q) c.parcels.ensures.parcels;
      still = c.in_ok-rows.rows;
      thinned = later-thinned _ tiles m c.replace-kept.result s.kept c.in_ok-rows.rows later c.replace-kept.ensures.value c.in_ok-rows.ensures;
      rows = later-rows _ tiles m c.args.release.now c.args.places.now c.in_ok-rows.rows c.in_ok-rows-2.rows later c.in_ok-rows-2.ensures;
    }
