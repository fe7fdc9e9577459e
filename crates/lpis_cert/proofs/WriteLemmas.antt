-- What is written is the text.
use Rattle.std.proofs.Common.{arith}
use Rattle.std.proofs.Common.{◌≡◌, ℕ, List, [], ◌∷◌, ◌++◌, length, map, refl, sym, ap, ap₂, ◌∙◌, flat_map}
use Rattle.lpis_cert.proofs.Common.{length-map, PiecePart, ParcelPart, ExactBlock, Cert, Triangle, CertLine, PieceLine, PairsLine, TriangleLine, FlatLine, EndLine, content_text}
use Rattle.lpis_cert.proofs.Common.{text_of_lines, written}
use Rattle.lpis_cert.proofs.Common.{content_lines, piece_lines, parcel_lines, exact_lines, end_lines, corner_numbers, triangle_corners, block_of_piece, block_of_parcel, exact_of, separator_of}
use Rattle.lpis_cert.proofs.Common.{content_of}
use Rattle.std.proofs.lemmas.List.Concat.{flat_map-cons}
use Rattle.lpis_cert.specs.CertText.{PairLine as separator_line}
use Rattle.lpis_cert.specs.private.Written.{line_text, flats_text, piece_text, parcel_text, exact_block_text, pairs_text, version_text, parts_text}
use Rattle.lpis_cert.specs.private.Drafts.{flats_line}
use Rattle.lpis_cert.specs.declared.head.Owner.{Owner}
use Rattle.lpis_cert.specs.declared.head.Owner.TheVariants as owner
use Rattle.lpis_cert.proofs.StepLemmas.{text-append}

one_line : (l : CertLine) (ls : List CertLine) → line_text l ++ text_of_lines written ls ≡ text_of_lines written (l ∷ ls)
unfolding line_text
one_line l ls = sym (text-append written (l ∷ []) ls)

many : {A : Type 0} (f : A → CertLine) (xs : List A) → flat_map (λ x. line_text (f x)) xs ≡ text_of_lines written (map f xs)
unfolding text_of_lines
many f [] = refl
many f (x ∷ xs) = flat_map-cons (λ x. line_text (f x)) x xs ∙ ap (λ (t : List ℕ). line_text (f x) ++ t) (many f xs) ∙ one_line (f x) (map f xs)

map-map : {A B C : Type 0} (f : A → B) (g : B → C) (xs : List A) → map (λ x. g (f x)) xs ≡ map g (map f xs)
map-map f g [] = refl
map-map f g (x ∷ xs) = ap (λ (t : List _). g (f x) ∷ t) (map-map f g xs)

piece_is : (p : PiecePart) → piece_text p ≡ text_of_lines written (piece_lines (block_of_piece p))
piece_is p =
    let ts = many (λ t. TriangleLine (corner_numbers t)) p.triangles ∙ ap (text_of_lines written) (map-map corner_numbers TriangleLine p.triangles) in
    let fs = many (λ t. FlatLine (corner_numbers t)) p.flats ∙ ap (text_of_lines written) (map-map corner_numbers FlatLine p.flats) in
    let n = length-map p.triangles corner_numbers in
    let m = length-map p.flats corner_numbers in
    ap₂ (λ (a b : List ℕ). line_text (PieceLine p.id (length p.triangles) (length p.flats)) ++ (a ++ b)) ts fs
    ∙ ap (λ (t : List ℕ). line_text (PieceLine p.id (length p.triangles) (length p.flats)) ++ t)
    (sym (text-append written (map TriangleLine (triangle_corners p.triangles)) (map FlatLine (triangle_corners p.flats))))
    ∙ one_line (PieceLine p.id (length p.triangles) (length p.flats)) (map TriangleLine (triangle_corners p.triangles) ++ map FlatLine (triangle_corners p.flats))
    ∙ ap₂ (λ (i j : ℕ). text_of_lines written (PieceLine p.id i j ∷ (map TriangleLine (triangle_corners p.triangles) ++ map FlatLine (triangle_corners p.flats)))) (sym n) (sym m)

-- a block of flats
flats_are : (w : Owner) (id : List ℕ) (fs : List Triangle) → flats_text w id fs
    ≡ text_of_lines written (flats_line w id (length (triangle_corners fs)) ∷ map FlatLine (triangle_corners fs))
flats_are w id fs =
    let cs = many (λ t. FlatLine (corner_numbers t)) fs ∙ ap (text_of_lines written) (map-map corner_numbers FlatLine fs) in
    let m = length-map fs corner_numbers in
    ap (λ (t : List ℕ). line_text (flats_line w id (length fs)) ++ t) cs
    ∙ one_line (flats_line w id (length fs)) (map FlatLine (triangle_corners fs))
    ∙ ap (λ (j : ℕ). text_of_lines written (flats_line w id j ∷ map FlatLine (triangle_corners fs))) (sym m)

parcel_is : (p : ParcelPart) → parcel_text p ≡ text_of_lines written (parcel_lines (block_of_parcel p))
parcel_is p = flats_are owner.Parcel p.id p.flats

exact_is : (b : ExactBlock) → exact_block_text b ≡ text_of_lines written (exact_lines (exact_of b))
exact_is b = flats_are (owner.Exact b.merge) b.id b.flats

blocks_are : {A B : Type 0} (text : A → List ℕ) (view : A → B) (ls : B → List CertLine)
    → ((x : A) → text x ≡ text_of_lines written (ls (view x))) → (xs : List A) → flat_map text xs ≡ text_of_lines written
    (flat_map ls (map view xs))
unfolding text_of_lines
blocks_are text view ls h [] = refl
blocks_are text view ls h (x ∷ xs) = grind (arith, blocks_are text view ls h xs, flat_map-cons, text-append)

end_line : line_text EndLine ≡ text_of_lines written (EndLine ∷ [])
unfolding line_text
end_line = refl

last_line : (ls : List CertLine) → text_of_lines written ls ++ line_text EndLine ≡ text_of_lines written (ls ++ (EndLine ∷ []))
last_line ls = cc (end_line, text-append written ls (EndLine ∷ []))

end_is : (c : Cert) → line_text (PairsLine (length c.pairs)) ++ (pairs_text c.pairs ++ line_text EndLine) ≡ text_of_lines written (end_lines (map separator_of c.pairs))
end_is c =
    let ps = many (λ p. separator_line (separator_of p)) c.pairs ∙ ap (text_of_lines written) (map-map separator_of separator_line c.pairs) in
    let n = length-map c.pairs separator_of in
    ap (λ (t : List ℕ). line_text (PairsLine (length c.pairs)) ++ (t ++ line_text EndLine)) ps
    ∙ ap (λ (t : List ℕ). line_text (PairsLine (length c.pairs)) ++ t) (last_line (map separator_line (map separator_of c.pairs)))
    ∙ one_line (PairsLine (length c.pairs)) (map separator_line (map separator_of c.pairs) ++ (EndLine ∷ []))
    ∙ ap (λ (i : ℕ). text_of_lines written (PairsLine i ∷ (map separator_line (map separator_of c.pairs) ++ (EndLine ∷ [])))) (sym n)

-- the first line and the texts of all parts, one after the other, are the text of a certificate as it is written
pub parts_text_is : (c : Cert) → parts_text c ≡ content_text written (content_of c)
unfolding version_text content_text content_lines
parts_text_is c = grind (arith, blocks_are, piece_is, parcel_is, exact_is, end_is, text-append)
