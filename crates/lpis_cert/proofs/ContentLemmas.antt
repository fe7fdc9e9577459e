-- The certificate of a content.
use Rattle.std.proofs.Common.{◌≡◌, List, [], ◌∷◌, map, refl, sym, ap, ap₂, subst, arith}
use Rattle.lpis_cert.proofs.Common.{AllByRecursion, Triangle, PiecePart, ParcelPart, ExactBlock, Cert, Version, Corners, Separator, PieceBlock, ParcelBlock, CertContent}
use Rattle.lpis_cert.proofs.Common.{corner_numbers, triangle_corners, block_of_piece, block_of_parcel, exact_of, separator_of, content_of, length-map}
use Rattle.lpis_cert.proofs.Common.{CornersFit, SeparatorFits, PieceFits, ParcelFits, ExactFits}
use Rattle.lpis_cert.specs.CertText.{ExactBlock as FlatsBlock}
use Rattle.lpis_cert.specs.private.Fits.{Fits}
use Rattle.lpis_cert.proofs.NumberLemmas.{in_range}
use Rattle.lpis_cert.proofs.LawLemmas.{triangle_sum, flat_sum, parcel_flat_sum, exact_flat_sum}
use Rattle.lpis_cert.proofs.CertEqualityLemmas.{same_content}
use Rattle.lpis_cert.specs.declared.part.PairLine as part

abbrev triangle_of : (v : Version) (c : Corners) → CornersFit v c → Triangle
triangle_of v c f = record {
  a = record { x = c.x1; y = c.y1; x_in_range = in_range v c.x1 f.x1; y_in_range = in_range v c.y1 f.y1 };
  b = record { x = c.x2; y = c.y2; x_in_range = in_range v c.x2 f.x2; y_in_range = in_range v c.y2 f.y2 };
  c = record { x = c.x3; y = c.y3; x_in_range = in_range v c.x3 f.x3; y_in_range = in_range v c.y3 f.y3 };
}

-- each item of a list is what is read of one that fits
each_of : {A B : Type 0} (Fit : B → Type 0) (read : A → B) → ((y : B) → Fit y → (x : A) × (read x ≡ y))
    → (ys : List B) → AllByRecursion Fit ys → (xs : List A) × (map read xs ≡ ys)
each_of Fit read one [] fits = ([], refl)
each_of Fit read one (y ∷ ys) fits =
    let x = one y fits.0 in
    let r = each_of Fit read one ys fits.1 in
    (x.0 ∷ r.0, ap₂ (λ (z : _) (zs : List _). z ∷ zs) x.1 r.1)

triangles_of : (v : Version) (cs : List Corners) → AllByRecursion (CornersFit v) cs → (ts : List Triangle) × (triangle_corners ts ≡ cs)
triangles_of v cs fits = each_of (CornersFit v) corner_numbers (λ c f. (triangle_of v c f, refl)) cs fits

a_piece_of : (v : Version) (p : PieceBlock) → PieceFits v p → (q : PiecePart) × (block_of_piece q ≡ p)
a_piece_of v p fits =
    let t = triangles_of v p.triangles fits.triangles in
    let f = triangles_of v p.flats fits.flats in
    (record { id = p.id; triangles = t.0; flats = f.0; named = fits.id }, ap₂ (λ (x y : List Corners). record { id = p.id; triangles = x; flats = y }) t.1 f.1)

a_parcel_of : (v : Version) (p : ParcelBlock) → ParcelFits v p → (q : ParcelPart) × (block_of_parcel q ≡ p)
a_parcel_of v p fits =
    let f = triangles_of v p.flats fits.flats in
    (record { id = p.id; flats = f.0; named = fits.id }, ap (λ (x : List Corners). record { id = p.id; flats = x }) f.1)

an_exact_of : (v : Version) (p : FlatsBlock) → ExactFits v p → (q : ExactBlock) × (exact_of q ≡ p)
an_exact_of v p fits =
    let f = triangles_of v p.flats fits.flats in
    (record { merge = p.merge; id = p.id; flats = f.0; named = fits.id }, ap (λ (x : List Corners). record { merge = p.merge; id = p.id; flats = x }) f.1)

a_pair_of : (p : Separator) → SeparatorFits p → (q : part.PairLine) × (separator_of q ≡ p)
a_pair_of p fits = (record { i = p.i; j = p.j; k = p.k; i_fits = fits.i; j_fits = fits.j; k_fits = fits.k }, refl)

-- the certificate of a content that fits
pub cert_of : (v : Version) (c : CertContent) → Fits v c → (x : Cert) × (content_of x ≡ c)
cert_of v c fits =
    let ps = each_of (PieceFits v) block_of_piece (a_piece_of v) c.pieces fits.pieces in
    let qs = each_of (ParcelFits v) block_of_parcel (a_parcel_of v) c.parcels fits.parcels in
    let es = each_of (ExactFits v) exact_of (an_exact_of v) c.exact fits.exact in
    let rs = each_of SeparatorFits separator_of a_pair_of c.pairs fits.pairs in
    let same = same_content ps.1 qs.1 es.1 rs.1 in
    let own = subst (Fits v) (sym same) fits in (
      record {
        pieces = ps.0;
        parcels = qs.0;
        exact = es.0;
        pairs = rs.0;
        triangles_few = omega (arith, triangle_sum ps.0, own.triangles_few);
        flats_few = omega (arith, flat_sum ps.0, parcel_flat_sum qs.0, exact_flat_sum es.0, own.flats_few);
        pairs_few = omega (arith, length-map rs.0 separator_of, own.pairs_few);
      },
      same,
    )
