-- What the rounded boxes of two triangles say of the triangles.
use Rattle.std.specs.Prelude.{◌≡◌, ⊤, true, false}
use Rattle.lpis_points.specs.declared.triangle.Triangle.{Triangle}
use Rattle.lpis_points.specs.Triangles.{are_apart}
use Rattle.lpis_pairs.specs.declared.overlaps.Overlap.{Overlap}
use Rattle.lpis_pairs.specs.declared.overlaps.Overlap.TheVariants.{Apart, Near, Close}

-- of two that are close nothing is said
abbrev pub Tells : Triangle → Triangle → Overlap → Type 0
Tells t u Apart = are_apart t u ≡ true
Tells t u Near = are_apart t u ≡ false
Tells t u Close = ⊤
