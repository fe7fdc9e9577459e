-- Certificates of one content are equal.
use Rattle.std.proofs.Common.{◌≡◌, ℕ, ◌+◌, ◌≤◌, Bool, true, List, [], ◌∷◌, length, map, refl, ap, ap₂, subst, sum_by}
use Rattle.lpis_cert.proofs.Common.{Triangle, is_id, PiecePart, ParcelPart, ExactBlock, Cert, most_triangles, most_flats, greatest_count, Corners, PieceBlock, ParcelBlock}
use Rattle.lpis_cert.proofs.Common.{Separator, CertContent, corner_numbers}
use Rattle.lpis_cert.proofs.Common.{triangle_corners, block_of_piece, block_of_parcel, exact_of, separator_of, content_of}
use Rattle.lpis_cert.specs.CertText.{ExactBlock as FlatsBlock}
use Rattle.std.proofs.Math.Bridge.{le_prop}
use mathlib.Core.Bool.{Bool-set}
use Rattle.lpis_points.specs.declared.point.Point.{Point}
use Rattle.lpis_points.proofs.Shared.{point_eq}
use Rattle.lpis_cert.specs.declared.part.PairLine.{PairLine}
use Rattle.lpis_cert.specs.Limits.{last_edge}

same_three : {A B C : Type 0} {a a' : A} {b b' : B} {c c' : C} → a ≡ a' → b ≡ b' → c ≡ c' → ◌≡◌ {A = A × B × C} (a, b, c) (a', b', c')
same_three {A} {B} {C} e f g = cc

same_four : {A B C D : Type 0} {a a' : A} {b b' : B} {c c' : C} {d d' : D} → a ≡ a' → b ≡ b' → c ≡ c' → d ≡ d'
    → ◌≡◌ {A = A × B × C × D} (a, b, c, d) (a', b', c', d')
same_four {A} {B} {C} {D} e f g h = cc

-- contents of the same lists are equal
pub same_content : {ps ps' : List PieceBlock} {qs qs' : List ParcelBlock} {es es' : List FlatsBlock} {rs rs' : List Separator} → ps ≡ ps' → qs ≡ qs' → es ≡ es'
    → rs ≡ rs'
    → ◌≡◌ {A = CertContent} (record { pieces = ps; parcels = qs; exact = es; pairs = rs }) (record { pieces = ps'; parcels = qs'; exact = es'; pairs = rs' })
same_content e f g h = cc

-- what is made of a value and of a proof, where all proofs are equal
made_same : {A R : Type 0} (P : A → Type 0) (make : (x : A) → P x → R) → ((x : A) (p q : P x) → p ≡ q) → {x y : A} → x ≡ y → (p : P x) (q : P y)
    → make x p ≡ make y q
made_same P make one {x} {y} e = subst (λ (z : _). (p : P x) (q : P z) → make x p ≡ make z q) e (λ p q. ap (λ (v : P x). make x v) (one x p q))

triangle_eq : (t u : Triangle) → corner_numbers t ≡ corner_numbers u → t ≡ u
triangle_eq t u e =
    let a = point_eq t.a u.a (ap (λ (c : Corners). c.x1) e) (ap (λ (c : Corners). c.y1) e) in
    let b = point_eq t.b u.b (ap (λ (c : Corners). c.x2) e) (ap (λ (c : Corners). c.y2) e) in
    let c = point_eq t.c u.c (ap (λ (c : Corners). c.x3) e) (ap (λ (c : Corners). c.y3) e) in
    ap (λ (v : Point × Point × Point). record { a = v.0; b = v.1; c = v.2 }) (same_three a b c)

same_first : {A : Type 0} (x y : A) (xs ys : List A) → x ∷ xs ≡ y ∷ ys → (x ≡ y) × (xs ≡ ys)
same_first x y xs ys e = (cc e, cc e)

maps_apart : {A B : Type 0} (f : A → B) (xs ys : List A) → ((x y : A) → f x ≡ f y → x ≡ y) → map f xs ≡ map f ys → xs ≡ ys
maps_apart f [] [] one e = refl
maps_apart f (x ∷ xs) (y ∷ ys) one e =
    let s = same_first (f x) (f y) (map f xs) (map f ys) e in
    ap₂ (λ (z : _) (zs : List _). z ∷ zs) (one x y s.0) (maps_apart f xs ys one s.1)
maps_apart f _ _ one e = absurd (cc e)

triangles_eq : (ts us : List Triangle) → triangle_corners ts ≡ triangle_corners us → ts ≡ us
triangles_eq ts us e = maps_apart corner_numbers ts us triangle_eq e

piece_eq : (p q : PiecePart) → block_of_piece p ≡ block_of_piece q → p ≡ q
piece_eq p q e =
    let same = same_three (ap (λ (b : PieceBlock). b.id) e) (triangles_eq p.triangles q.triangles (ap (λ (b : PieceBlock). b.triangles) e))
    (triangles_eq p.flats q.flats (ap (λ (b : PieceBlock). b.flats) e)) in
    made_same (λ (x : List ℕ × List Triangle × List Triangle). is_id x.0 ≡ true) (λ x h. record { id = x.0; triangles = x.1; flats = x.2; named = h })
    (λ x. Bool-set _ _) same p.named q.named

parcel_eq : (p q : ParcelPart) → block_of_parcel p ≡ block_of_parcel q → p ≡ q
parcel_eq p q e =
    let same = ap₂ (λ (i : List ℕ) (ts : List Triangle). (i, ts)) (ap (λ (b : ParcelBlock). b.id) e)
    (triangles_eq p.flats q.flats (ap (λ (b : ParcelBlock). b.flats) e)) in
    made_same (λ (x : List ℕ × List Triangle). is_id x.0 ≡ true) (λ x h. record { id = x.0; flats = x.1; named = h }) (λ x. Bool-set _ _) same p.named q.named

exact_eq : (p q : ExactBlock) → exact_of p ≡ exact_of q → p ≡ q
exact_eq p q e =
    let same = same_three (ap (λ (b : FlatsBlock). b.merge) e) (ap (λ (b : FlatsBlock). b.id) e)
    (triangles_eq p.flats q.flats (ap (λ (b : FlatsBlock). b.flats) e)) in
    made_same (λ (x : Bool × List ℕ × List Triangle). is_id x.1 ≡ true) (λ x h. record { merge = x.0; id = x.1; flats = x.2; named = h })
    (λ x. Bool-set _ _) same p.named q.named

abbrev PairBounds : ℕ × ℕ × ℕ → Type 0
PairBounds x = (x.0 ≤ greatest_count) × (x.1 ≤ greatest_count) × (x.2 ≤ last_edge)

pair_eq : (p q : PairLine) → separator_of p ≡ separator_of q → p ≡ q
pair_eq p q e =
    made_same PairBounds (λ x h. record { i = x.0; j = x.1; k = x.2; i_fits = h.0; j_fits = h.1; k_fits = h.2 })
    (λ x g h. same_three (le_prop g.0 h.0) (le_prop g.1 h.1) (le_prop g.2 h.2))
    (same_three (ap (λ (s : Separator). s.i) e) (ap (λ (s : Separator). s.j) e) (ap (λ (s : Separator). s.k) e)) (p.i_fits, p.j_fits, p.k_fits)
    (q.i_fits, q.j_fits, q.k_fits)

abbrev AreFew : List PiecePart × List ParcelPart × List ExactBlock × List PairLine → Type 0
AreFew x =
    (sum_by (λ (p : PiecePart). length p.triangles) x.0 ≤ most_triangles)
    × (sum_by (λ (p : PiecePart). length p.flats) x.0 + sum_by (λ (p : ParcelPart). length p.flats) x.1
    + sum_by (λ (b : ExactBlock). length b.flats) x.2 ≤ most_flats) × (length x.3 ≤ greatest_count)

-- a certificate is its content
pub cert_eq : (c d : Cert) → content_of c ≡ content_of d → c ≡ d
cert_eq c d e =
    let pieces = maps_apart block_of_piece c.pieces d.pieces piece_eq (ap (λ (x : CertContent). x.pieces) e) in
    let parcels = maps_apart block_of_parcel c.parcels d.parcels parcel_eq (ap (λ (x : CertContent). x.parcels) e) in
    let exact = maps_apart exact_of c.exact d.exact exact_eq (ap (λ (x : CertContent). x.exact) e) in
    let pairs = maps_apart separator_of c.pairs d.pairs pair_eq (ap (λ (x : CertContent). x.pairs) e) in
    made_same AreFew (λ x h. record { pieces = x.0; parcels = x.1; exact = x.2; pairs = x.3; triangles_few = h.0; flats_few = h.1; pairs_few = h.2 })
    (λ x g h. same_three (le_prop g.0 h.0) (le_prop g.1 h.1) (le_prop g.2 h.2)) (same_four pieces parcels exact pairs)
    (c.triangles_few, c.flats_few, c.pairs_few) (d.triangles_few, d.flats_few, d.pairs_few)
