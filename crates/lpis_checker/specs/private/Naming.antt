-- The pair lines and the near pairs that they name.
use Rattle.std.specs.Prelude.{◌≡◌, ℕ, ◌≤◌, List, length, slice_get, Some}
use Rattle.lpis_points.specs.declared.triangle.Triangle.{Triangle}
use Rattle.lpis_pairs.specs.NearPairs.{HasNearPairs}
use Rattle.lpis_cert.specs.declared.cert.Cert.{Cert}
use Rattle.lpis_cert.specs.declared.part.PairLine.{PairLine}
use Rattle.lpis_checker.specs.declared.condition.LineCondition.TheVariants as line
use Rattle.lpis_checker.specs.GoodCertificate.{OfTriangles, OnLine}

-- at this index there is a pair line, and it names the pair i, j
abbrev pub NamesAt : List PairLine → ℕ → ℕ → ℕ → Type 0
NamesAt lines at i j = (l : PairLine) × (slice_get lines at ≡ Some l) × (l.i ≡ i) × (l.j ≡ j)

-- a pair line's triangles are not apart, and its edge separates them
abbrev pub IsGoodLine : List Triangle → PairLine → Type 0
IsGoodLine ts l = OfTriangles ts l (OnLine line.NotApart l) × OfTriangles ts l (OnLine line.Separating l)

-- a list of the near pairs is no longer than that of the pair lines
abbrev pub AreAsMany : Cert → List Triangle → Type 0
AreAsMany c ts = (found : List (ℕ × ℕ)) × HasNearPairs ts found × (length found ≤ length c.pairs)
