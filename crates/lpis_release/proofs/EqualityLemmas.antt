-- Tests that tell equal rows.
use Rattle.std.proofs.Common.{◌≡◌, ◌≤◌, ◌&&◌, ◌==◌, ℕ, Bool, true, false, List, refl, ap, sym, ◌∙◌, subst, true≢false}
use Rattle.std.specs.Coded.{le_prop}
use Rattle.std.specs.Cmp.Lexicographic.{pointwise, pointwise_decides, bytes_decides}
use Rattle.std.specs.Cmp.{unsigned_Decides}
use Rattle.lpis_points.specs.Chain.{IsEquality}
use Rattle.lpis_points.specs.Plane.{same_point}
use Rattle.lpis_points.proofs.Shared.{same_point-equality}
use Rattle.lpis_rings.specs.declared.polygon.Member.{Member}
use Rattle.lpis_tables.specs.declared.class.Class.{Class}
use Rattle.lpis_tables.specs.declared.piece.Piece.{Piece}
use Rattle.lpis_tables.specs.Ids.{same_id}
use Rattle.lpis_tables.specs.Percentages.{most_percent}
use Rattle.lpis_release.specs.Equality.{same_class, same_member, same_piece, same_pieces, same_polygon}

both : (a b : Bool) → (a && b) ≡ true → (a ≡ true) × (b ≡ true)
both true b e = (refl, e)
both false b e = absurd (true≢false (sym e))

joined : (a b : Bool) → a ≡ true → b ≡ true → (a && b) ≡ true
joined true b p q = q
joined false b p q = absurd (true≢false (sym p))

member-equal : (a b : Member) → a.shell ≡ b.shell → a.holes ≡ b.holes → a ≡ b
member-equal a b p q = λ j. record { shell = p j; holes = q j }

members : IsEquality same_member
members a b = (
  λ e. let r = both (pointwise same_point a.shell b.shell) (pointwise (pointwise same_point) a.holes b.holes) e in
      member-equal a b ((pointwise_decides same_point-equality a.shell b.shell).0 r.0) ((pointwise_decides (pointwise_decides same_point-equality) a.holes b.holes).0 r.1),
  λ e. joined (pointwise same_point a.shell b.shell) (pointwise (pointwise same_point) a.holes b.holes)
      ((pointwise_decides same_point-equality a.shell b.shell).1 (ap (λ (m : Member). m.shell) e))
      ((pointwise_decides (pointwise_decides same_point-equality) a.holes b.holes).1 (ap (λ (m : Member). m.holes) e)),
)

-- the test of two polygons is true exactly where they are equal
pub same_polygon-tells : IsEquality same_polygon
same_polygon-tells = pointwise_decides members

piece-equal : (a b : Piece) → a.id ≡ b.id → a.parcel ≡ b.parcel → a.class ≡ b.class → a.polygon ≡ b.polygon → a ≡ b
piece-equal a b p q r s = λ j. record { id = p j; parcel = q j; class = r j; polygon = s j }

single : IsEquality same_piece
single a b = (
  λ e. let r = both (same_id a.id b.id) (same_id a.parcel b.parcel && (same_id a.class b.class && same_polygon a.polygon b.polygon)) e in
      let s = both (same_id a.parcel b.parcel) (same_id a.class b.class && same_polygon a.polygon b.polygon) r.1 in
      let t = both (same_id a.class b.class) (same_polygon a.polygon b.polygon) s.1 in
      piece-equal a b ((bytes_decides a.id b.id).0 r.0) ((bytes_decides a.parcel b.parcel).0 s.0) ((bytes_decides a.class b.class).0 t.0) ((same_polygon-tells a.polygon b.polygon).0 t.1),
  λ e. joined (same_id a.id b.id) (same_id a.parcel b.parcel && (same_id a.class b.class && same_polygon a.polygon b.polygon)) ((bytes_decides a.id b.id).1 (ap (λ (x : Piece). x.id) e))
      (joined (same_id a.parcel b.parcel) (same_id a.class b.class && same_polygon a.polygon b.polygon) ((bytes_decides a.parcel b.parcel).1 (ap (λ (x : Piece). x.parcel) e))
      (joined (same_id a.class b.class) (same_polygon a.polygon b.polygon) ((bytes_decides a.class b.class).1 (ap (λ (x : Piece). x.class) e))
      ((same_polygon-tells a.polygon b.polygon).1 (ap (λ (x : Piece). x.polygon) e)))),
)

-- the test of two lists of pieces is true exactly where they are equal
pub same_pieces-tells : IsEquality same_pieces
same_pieces-tells = pointwise_decides single

abbrev make : (code : List ℕ) (percent : ℕ) → percent ≤ most_percent → Class
make code percent h = record { code = code; percent = percent; within = h }

made-equal : (c d : List ℕ) (p q : ℕ) → c ≡ d → p ≡ q → (h : p ≤ most_percent) (k : q ≤ most_percent) → make c p h ≡ make d q k
made-equal c d p q e f h k =
    ap (λ (x : List ℕ). make x p h) e
    ∙ subst (λ (v : ℕ). (l : v ≤ most_percent) → make d p h ≡ make d v l) f (λ l. ap (λ (m : p ≤ most_percent). make d p m) (le_prop h l)) k

class-equal : (a b : Class) → a.code ≡ b.code → a.percent ≡ b.percent → a ≡ b
class-equal a b p q = made-equal a.code b.code a.percent b.percent p q a.within b.within

-- the test of two classes is true exactly where they are equal
pub same_class-tells : IsEquality same_class
same_class-tells a b = (
  λ e. let r = both (same_id a.code b.code) (a.percent == b.percent) e in
      class-equal a b ((bytes_decides a.code b.code).0 r.0) ((unsigned_Decides a.percent b.percent).0 r.1),
  λ e. joined (same_id a.code b.code) (a.percent == b.percent) ((bytes_decides a.code b.code).1 (ap (λ (x : Class). x.code) e))
      ((unsigned_Decides a.percent b.percent).1 (ap (λ (x : Class). x.percent) e)),
)
