-- Triangles that are read where they stand.
use Rattle.std.proofs.Common.{◌≡◌, ℕ, ◌<◌, All, Bor, List, length, get_or, Option, Some, refl, ap, subst, ◌∙◌, slice_get}
use Rattle.std.specs.Option.{option_map}
use Rattle.lpis_checker.proofs.Common.{slice_get_within, Triangle, PairLine}
use Rattle.std.proofs.lemmas.Option.{get_or_from_slice_get, slice_get-map, slice_get_read}
use Rattle.lpis_points.specs.Triangles.{IsCounterClockwise}
use Rattle.lpis_pairs.specs.NearPairs.{seen}
use Rattle.lpis_checker.specs.declared.condition.LineCondition.TheVariants as line
use Rattle.lpis_checker.specs.GoodCertificate.{OnLine}
use Rattle.lpis_checker.specs.private.Naming.{IsGoodLine}

-- the one at an index
pub seen_at : (xs : List (Bor Triangle)) (i : ℕ) (x : Bor Triangle) → i < length xs → x ≡ get_or xs i x → slice_get (seen xs) i ≡ Some x.now
seen_at xs i x l e =
    slice_get-map (λ (t : Bor Triangle). t.now) xs i ∙ ap (λ (o : Option (Bor Triangle)). option_map (λ (t : Bor Triangle). t.now) o) (slice_get_read xs (length xs) i x refl l e)

-- the triangle at an index is counter-clockwise where all are
pub turned_at : (ts : List Triangle) (i : ℕ) (t : Triangle) → All IsCounterClockwise ts → slice_get ts i ≡ Some t → IsCounterClockwise t
turned_at ts i t h e = subst IsCounterClockwise (get_or_from_slice_get ts i t t e) (h i t (slice_get_within ts i t e))

-- a line is good by the triangles that are read
pub good_line : (ts : List Triangle) (l : PairLine) (t u : Triangle) → slice_get ts l.i ≡ Some t → slice_get ts l.j ≡ Some u → OnLine line.NotApart l t u
    → OnLine line.Separating l t u → IsGoodLine ts l
good_line ts l t u e f near separated = (rw (e, f) near, rw (e, f) separated)
