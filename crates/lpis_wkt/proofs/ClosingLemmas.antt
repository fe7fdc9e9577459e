-- A `)` that closes no ring.
use Rattle.std.proofs.Common.{◌≡◌, ◌<◌, false, true, Bool, List, length, Err, refl, arith, nat_lt}
use Rattle.lpis_wkt.proofs.Common.{nat_tests, Point, IsRing, Context, AfterPoint, is_closed, close_ring}
use Rattle.lpis_wkt.specs.declared.fault.WktCode.TheVariants.{TooFewPoints, NotClosed}
use Rattle.lpis_wkt.specs.declared.parser.Expecting.{Expecting}
use Rattle.lpis_wkt.specs.private.Parsing.{state_of}
use Rattle.lpis_wkt.proofs.PointLemmas.{is_closed-true}
use Rattle.lpis_wkt.specs.declared.parser.Expecting.TheVariants as expecting

-- a `)` after fewer than four points of a ring is the fault of too few points
pub short_ring : (b : Context) (ps : List Point) → length ps < 4 → close_ring b ps ≡ Err TooFewPoints
short_ring b ps lt = let few : nat_lt (length ps) 4 ≡ true = grind (arith, nat_tests) in rw few refl

open_by : (b : Context) (ps : List Point) (closed : Bool) → is_closed ps ≡ closed → nat_lt (length ps) 4 ≡ false → (IsRing ps → ⊥) → close_ring b ps ≡ Err NotClosed
open_by b ps true e few cannot = absurd (cannot (record { four = grind (arith, nat_tests); closed = is_closed-true ps e }))
open_by b ps false e few cannot = rw (few, e) refl

-- a `)` after four points or more that are no ring is the fault of a ring that is not closed
pub open_ring : (b : Context) (ps : List Point) → (length ps < 4 → ⊥) → (IsRing ps → ⊥) → close_ring b ps ≡ Err NotClosed
open_ring b ps long cannot = open_by b ps (is_closed ps) refl (is_long ps (nat_lt (length ps) 4) refl long) cannot where
  is_long : (ps : List Point) (few : Bool) → nat_lt (length ps) 4 ≡ few → (length ps < 4 → ⊥) → nat_lt (length ps) 4 ≡ false
  is_long ps true e long = absurd (long (grind (arith, nat_tests)))
  is_long ps false e long = e

-- the points after which `,` or `)` is expected
pub points_at : (p : Expecting) (b b' : Context) (ps ps' : List Point) → state_of p b ps ≡ AfterPoint b' ps' → ps ≡ ps'
points_at expecting.End b b' ps ps' e = cc
points_at _ b b' ps ps' e = cc
