-- What a step tests and keeps, by what is kept of the regions before.
use Rattle.std.specs.Prelude.{◌≡◌, ◌+◌, ◌||◌, ◌++◌, ℕ, List, drop, flat_map}
use Rattle.lpis_tables.specs.Ids.{has_id}
use Rattle.lpis_release.specs.Release.{Contents, parcel_ids}
use Rattle.lpis_country_seam.specs.declared.kept.KeptRow.{KeptRow}
use Rattle.lpis_country_seam.specs.declared.fault.SeamFault.{SeamFault}
use Rattle.lpis_country_seam.specs.declared.seam.OpenSeam.{OpenSeam}
use Rattle.lpis_country_seam.specs.Faults.{seam_class_faults}
use Rattle.lpis_country_seam.specs.private.Kept.{AreThinned, at_places, new_rows}
use Rattle.lpis_country_seam.specs.private.Kept.{with_rows}
use Rattle.lpis_country_seam.specs.private.Testing.{tested_kept, tested_row}

-- the faults of a region
abbrev pub tested : OpenSeam → Contents → List SeamFault
tested s r =
    seam_class_faults 1 r.classes s.classes.items
    ++ (flat_map (tested_row s.tiles.items s.next s.ids s.kept r) r.parcels
    ++ tested_kept s.tiles.items s.next s.kept r)

-- the seam with a region more, whose new parcels have these places
pub record IsKeptNext (s next : OpenSeam) (r : Contents) (places : List ℕ) : Type 0 where
  pub tiles : next.tiles.items ≡ s.tiles.items
  pub classes : next.classes.items ≡ s.classes.items
  pub number : next.next ≡ s.next + 1
  pub ids : (q : List ℕ) → has_id next.ids q ≡ (has_id s.ids q || has_id (parcel_ids r.parcels) q)
  pub still : List KeptRow
  pub thinned : AreThinned (drop (s.next + 1) s.tiles.items) s.kept still
  pub rows : next.kept ≡ with_rows still
      (new_rows (drop (s.next + 1) s.tiles.items) r (at_places r.parcels places))
