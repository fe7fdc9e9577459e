-- Plans.
use Rattle.std.proofs.Common.{◌≡◌, ℕ, ◌<◌, List, length, sym, ap, ◌∙◌, arith, length-append}
use Rattle.lpis_country.specs.Tiling.{frame}
use Rattle.lpis_country.specs.Tree.{Tree, folder, by_x, by_y, folders}
use Rattle.lpis_country.specs.Plans.{PlanParts, IsPlan}
use Rattle.lpis_country.proofs.TreeLemmas.{as_many_tiles}

some_folder : (t : Tree) → 0 < length (folders t)
some_folder (folder name) = omega arith
some_folder (by_x c s t) = omega (arith, some_folder s, length-append (folders s) (folders t))
some_folder (by_y c s t) = omega (arith, some_folder s, length-append (folders s) (folders t))

-- a plan has a region
pub plan_has_some : (p : PlanParts) → IsPlan p → 0 < length p.names
plan_has_some p h = omega (arith, some_folder h.0, ap (λ (ns : List (List ℕ)). length ns) h.1.names)

-- and a tile for each
pub plan_tiles : (p : PlanParts) → IsPlan p → length p.names ≡ length p.tiles
plan_tiles p h = ap (λ (ns : List (List ℕ)). length ns) h.1.names ∙ as_many_tiles h.0 frame ∙ sym (ap (λ (bs : List _). length bs) h.1.tiles)
