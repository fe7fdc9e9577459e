use Rattle.std.proofs.Common.{sym}
use Rattle.lpis_country.specs.Tiling.{frame, rectangles}
use Rattle.lpis_country_seam.proofs.seam.OpenSeam.end.Goals as goal

pub invariant_of-result : goal.invariant_of-result
invariant_of-result c =
    let h = c.requires in
    let law = c.a_country_of_joined_regions_is_sound.ensures in
    record {
      classes = h.classes;
      regions = h.regions;
      union = law.union (rectangles h.tiling frame) h.classes h.regions h.seam.joined;
      sound = law.sound h.tiling h.classes h.regions h.seam.joined h.sound h.all;
      are = sym h.are;
    }
