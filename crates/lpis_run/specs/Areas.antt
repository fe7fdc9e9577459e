-- The areas of parcels, added.
use Rattle.std.specs.Prelude.{◌≡◌, ◌≤◌, ◌*◌, List, length, nat_abs}
use Rattle.lpis_points.specs.Sums.{int_sum_by}
use Rattle.lpis_rings.specs.Area.{area2}
use Rattle.lpis_rings.specs.AreaBounds.{most_area}
use Rattle.lpis_release.specs.declared.parcel.Parcel.{Parcel}
use Rattle.lpis_release.specs.Weighted.{most_weighted, weighted2}
use Rattle.lpis_release.specs.Release.{Contents}
use Rattle.lpis_run.specs.declared.areas.Areas.{Areas}

-- the areas of parcels of a release, added, are no greater than those of as many parcels can be
pub record AreasOf (r : Contents) (ks : List Parcel) (a : Areas) : Type 0 where
  pub area : a.area ≡ int_sum_by (λ k. area2 k.polygon) ks
  pub weighted : a.weighted ≡ int_sum_by (λ k. weighted2 r k.id) ks
  pub area_small : nat_abs a.area ≤ most_area * length ks
  pub weighted_small : nat_abs a.weighted ≤ most_weighted * length ks
