-- Laws of the text.
use Rattle.std.proofs.Common.{◌≡◌, ℕ, ◌+◌, ◌<◌, Bool, true, false, cond, List, [], ◌∷◌, ◌++◌, length, map, Option, Some, None, Result, Ok, Err, refl, sym, ap, ap₂, subst, ◌∙◌, arith}
use Rattle.std.proofs.Common.{append_assoc, length-append, sum_by, flat_map}
use Rattle.std.proofs.Common.{IfOk, IfErr, MatchResult}
use Rattle.lpis_cert.proofs.Common.{nat_tests, join_with_byte-slice_split, onto_first, AllByRecursion, length-map, sum_by-cons, PiecePart, ParcelPart, ExactBlock, Cert}
use Rattle.lpis_cert.proofs.Common.{CertFault}
use Rattle.lpis_cert.proofs.Common.{block_of_piece, block_of_parcel, exact_of, separator_of, content_of, IsCertText, PieceFits, ParcelFits, ExactFits, CertCode, Version, first_line, version_named}
use Rattle.lpis_cert.proofs.Common.{written}
use Rattle.lpis_cert.proofs.Common.{Corners, Triangle, Separator, PieceBlock, ParcelBlock}
use Rattle.lpis_cert.proofs.Common.{CertContent, CertLine, TriangleLine, FlatLine, content_text, text_of_lines, spelling, content_lines, piece_lines, parcel_lines, exact_lines}
use Rattle.lpis_cert.proofs.Common.{end_lines, CornersFit, LineFits, is_lf, lines, lines_outcome, outcome_of, at_last, line_step, LineState, AtEnd, first_state, verdict}
use Rattle.lpis_cert.proofs.Common.{parcels_lines, exacts_lines}
use Rattle.lpis_cert.specs.CertText.{ExactBlock as FlatsBlock}
use Rattle.lpis_cert.specs.declared.fault.CertFault.TheVariants.{Memory, At}
use Rattle.lpis_cert.specs.Contents.{cert_text, IsTextOfCert, triangle_corners, corner_numbers}
use Rattle.lpis_cert.proofs.CertEqualityLemmas.{cert_eq, same_content}
use Rattle.lpis_cert.proofs.BlockLemmas.{separators_fit, lines_fit}
use Rattle.lpis_cert.specs.private.Fits.{Fits}
use Rattle.lpis_cert.specs.Reading.{◌>>=◌}
use Rattle.lpis_cert.specs.Faults.{at_line, outcome_named, IsFirstFault}
use Rattle.lpis_cert.proofs.SplittingLemmas.{split_some}
use Rattle.lpis_cert.proofs.WordLemmas.{lines_from, lines_named}
use Rattle.lpis_cert.proofs.NumberLemmas.{has_text}
use Rattle.lpis_cert.proofs.LineLemmas.{spelling_injective}
use Rattle.lpis_cert.proofs.StepLemmas.{Goes}
use Rattle.lpis_cert.proofs.ReadLemmas.{names_itself, certificate_goes, fitting_text_accepted}
use Rattle.lpis_cert.specs.declared.fault.CertCode.TheVariants as code

-- ---- a prefix

glue : List (List ℕ) → List (List ℕ) → List (List ℕ)
glue [] b = b
glue (r ∷ []) [] = r ∷ []
glue (r ∷ []) (h ∷ t) = (r ++ h) ∷ t
glue (l ∷ m ∷ ls) b = l ∷ glue (m ∷ ls) b

glued_empty : (b : List (List ℕ)) → ((v : List ℕ) × (vs : List (List ℕ)) × (b ≡ v ∷ vs)) → b ≡ glue ([] ∷ []) b
unfolding glue
glued_empty [] h = absurd (cc h.2)
glued_empty (v ∷ vs) h = refl

glued_end : (a b : List (List ℕ)) → ((v : List ℕ) × (vs : List (List ℕ)) × (a ≡ v ∷ vs)) → ◌≡◌ {A = List (List ℕ)} ([] ∷ glue a b) (glue ([] ∷ a) b)
unfolding glue
glued_end [] b h = absurd (cc h.2)
glued_end (v ∷ vs) b h = refl

glued_first : (c : ℕ) (a b : List (List ℕ)) → ((v : List ℕ) × (vs : List (List ℕ)) × (a ≡ v ∷ vs))
    → ((v : List ℕ) × (vs : List (List ℕ)) × (b ≡ v ∷ vs)) → onto_first c (glue a b) ≡ glue (onto_first c a) b
unfolding glue
glued_first c [] b h k = absurd (cc h.2)
glued_first c (v ∷ []) [] h k = absurd (cc k.2)
glued_first _ _ _ _ _ = refl

lines-append : (p q : List ℕ) → lines (p ++ q) ≡ glue (lines p) (lines q)
lines-append [] q = glued_empty (lines q) (split_some is_lf q)
lines-append (b ∷ p) q = grind (arith, lines-append p q, glue, glued_end, split_some, glued_first)

glue_some : (w : List ℕ) (ws : List (List ℕ)) (h : List ℕ) (t : List (List ℕ)) → (v : List ℕ) × (vs : List (List ℕ)) × (glue (w ∷ ws) (h ∷ t) ≡ v ∷ vs)
unfolding glue
glue_some w [] h t = (w ++ h, t, refl)
glue_some w (x ∷ ws) h t = (w, glue (x ∷ ws) (h ∷ t), refl)

went : {A : Type 0} (n : ℕ) (r : Result LineState CertCode) (f : LineState → Result A (CertCode × ℕ)) (k : A) → (at_line n r >>= f) ≡ Ok k
    → (q : LineState) × (r ≡ Ok q) × (f q ≡ Ok k)
went n (Ok q) f k h = (q, refl, h)
went n (Err c) f k h = absurd cc

-- the text ends where the grammar has not
stops : (v : Version) (n : ℕ) (p : LineState) (l h : List ℕ) (t : List (List ℕ)) (k : ℕ) → 0 < length h + length t → lines_outcome v n p ((l ++ h) ∷ t) ≡ Ok k
    → lines_outcome v n p (l ∷ []) ≡ Err (code.Truncated, n)
unfolding lines_outcome at_last line_step
stops v n AtEnd l h [] k some e = grind (arith, nat_tests, length-append)
stops v n AtEnd l h (x ∷ t) k some e = absurd (cc e)
stops _ _ _ _ _ _ _ _ _ = refl

cut_short : (v : Version) (n : ℕ) (p : LineState) (l : List ℕ) (ls : List (List ℕ)) (h : List ℕ) (t : List (List ℕ)) (k : ℕ)
    → 0 < length h + length t → lines_outcome v n p (glue (l ∷ ls) (h ∷ t)) ≡ Ok k
    → lines_outcome v n p (l ∷ ls) ≡ Err (code.Truncated, n + length ls)
unfolding lines_outcome glue
cut_short v n p l [] h t k some e = grind (arith, stops)
cut_short v n p l (w ∷ ws) h t k some e =
    let g = glue_some w ws h t in
    let more = g.2 in
    let s = went n (line_step v p l) (λ q. lines_outcome v (n + 1) q (g.0 ∷ g.1)) k (rw more at e) in
    let rest : lines_outcome v (n + 1) s.0 (glue (w ∷ ws) (h ∷ t)) ≡ Ok k = rw more s.2 in
    let at = s.1 in
    let end = cut_short v (n + 1) s.0 w ws h t k some rest in
    rw (at, end) (ap (λ (i : ℕ). Err (code.Truncated, i)) (omega arith))

cut_named : (o : Option Version) (w : List ℕ) (ws : List (List ℕ)) (h : List ℕ) (t : List (List ℕ)) (k : ℕ)
    → 0 < length h + length t → outcome_named o (glue (w ∷ ws) (h ∷ t)) ≡ Ok k
    → outcome_named o (w ∷ ws) ≡ Err (code.Truncated, 2 + length ws)
cut_named None w ws h t k some e = absurd (cc e)
cut_named (Some v) w ws h t k some e = cut_short v 2 first_state w ws h t k some e

cut_first : (l : List ℕ) (ls : List (List ℕ)) (h : List ℕ) (t : List (List ℕ)) (k : ℕ) → 0 < length h + length t
    → outcome_of (glue (l ∷ ls) (h ∷ t)) ≡ Ok k → outcome_of (l ∷ ls) ≡ Err (code.Truncated, 1 + length ls)
unfolding outcome_of glue
cut_first l [] h t k some e = refl
cut_first l (w ∷ ws) h t k some e =
    let g = glue_some w ws h t in
    let more = g.2 in
    let rest : outcome_named (version_named l) (glue (w ∷ ws) (h ∷ t)) ≡ Ok k = rw more (rw more at e) in
    cut_named (version_named l) w ws h t k some rest ∙ ap (λ (i : ℕ). Err (code.Truncated, i)) (omega arith)

more_lines : (q : List ℕ) → 0 < length q → (h : List ℕ) × (t : List (List ℕ)) × (lines q ≡ h ∷ t) × (0 < length h + length t)
more_lines [] lt = absurd (omega arith)
more_lines (c ∷ q) lt = by_test (is_lf c) (split_some is_lf q)
  where
    by_test : (b : Bool) → ((v : List ℕ) × (vs : List (List ℕ)) × (lines q ≡ v ∷ vs)) → (h : List ℕ)
        × (t : List (List ℕ)) × (cond b ([] ∷ lines q) (onto_first c (lines q)) ≡ h ∷ t) × (0 < length h + length t)
    by_test true s = ([], s.0 ∷ s.1, ap (λ (x : List (List ℕ)). [] ∷ x) s.2, omega arith)
    by_test false s = (c ∷ s.0, s.1, ap (onto_first c) s.2, omega arith)

-- the line that is missing or unended
pub prefix_cut : (p q : List ℕ) (k : ℕ) → verdict (p ++ q) ≡ Ok k → 0 < length q → verdict p ≡ Err (code.Truncated, length (lines p))
prefix_cut p q k e lt =
    let s = split_some is_lf p in
    let m = more_lines q lt in
    let a = s.2 in
    let b = m.2 in
    let glued : outcome_of (glue (s.0 ∷ s.1) (m.0 ∷ m.1)) ≡ Ok k = rw (← a, ← b, ← lines-append p q) e in
    rw a (cut_first s.0 s.1 m.0 m.1 k m.3 glued ∙ ap (λ (i : ℕ). Err (code.Truncated, i)) (omega arith))

-- ---- one value a text

went_fit : (v : Version) (p q : LineState) (ls : List CertLine) → Goes v p ls q → AllByRecursion (LineFits v) ls
went_fit v p q [] g = tt
went_fit v p q (l ∷ ls) g = (g.0, went_fit v g.1.0 q ls g.1.2)

-- each line of a content that fits has a text
pub fits_of : (v : Version) (c : CertContent) → Fits v c → AllByRecursion (LineFits v) (content_lines c)
fits_of v c fits = went_fit v first_state AtEnd (content_lines c) (certificate_goes v c fits)

same_head : (a b : List ℕ) (x y : List (List ℕ)) → ◌≡◌ {A = List (List ℕ)} (a ∷ x) (b ∷ y) → (a ≡ b) × (x ≡ y)
same_head a b x y e = (cc e, cc e)

same_lines : (a b : List ℕ) → lines a ≡ lines b → a ≡ b
same_lines a b e = cc (join_with_byte-slice_split 10 a, join_with_byte-slice_split 10 b)

no_text : (v : Version) (l : CertLine) (ls : List CertLine) → text_of_lines v [] ≡ text_of_lines v (l ∷ ls) → ⊥
unfolding text_of_lines
no_text v l ls e = grind (arith, length-append (spelling v l) (10 ∷ text_of_lines v ls))

lines_injective : (v : Version) (xs ys : List CertLine) → AllByRecursion (LineFits v) xs → AllByRecursion (LineFits v) ys
    → text_of_lines v xs ≡ text_of_lines v ys → xs ≡ ys
unfolding text_of_lines
lines_injective v [] [] fx fy e = refl
lines_injective v [] (y ∷ ys) fx fy e = absurd (no_text v y ys e)
lines_injective v (x ∷ xs) [] fx fy e = absurd (no_text v x xs (sym e))
lines_injective v (x ∷ xs) (y ∷ ys) fx fy e =
    let cut = sym (lines_from v x (text_of_lines v xs) fx.0) ∙ ap lines e ∙ lines_from v y (text_of_lines v ys) fy.0 in
    let parts = same_head (spelling v x) (spelling v y) (lines (text_of_lines v xs)) (lines (text_of_lines v ys)) cut in
    let first = spelling_injective v x y fx.0 fy.0 parts.0 in
    let rest = lines_injective v xs ys fx.1 fy.1 (same_lines (text_of_lines v xs) (text_of_lines v ys) parts.1) in
    rw (first, rest) refl

same_first : (x y : CertLine) (xs ys : List CertLine) → ◌≡◌ {A = List CertLine} (x ∷ xs) (y ∷ ys) → (x ≡ y) × (xs ≡ ys)
same_first x y xs ys e = (cc e, cc e)

-- as many lines of one kind at the front
fronts : {A : Type 0} (f : A → CertLine) (xs ys : List A) (us vs : List CertLine) → ((a b : A) → f a ≡ f b → a ≡ b) → length xs ≡ length ys
    → map f xs ++ us ≡ map f ys ++ vs → (xs ≡ ys) × (us ≡ vs)
fronts f [] [] us vs inj n e = (refl, e)
fronts f (x ∷ xs) (y ∷ ys) us vs inj n e =
    let s = same_first (f x) (f y) (map f xs ++ us) (map f ys ++ vs) e in
    let r = fronts f xs ys us vs inj (omega arith) s.1 in
    let first = inj x y s.0 in
    let rest = r.0 in
    (rw (first, rest) refl, r.1)
fronts f _ _ us vs inj n e = absurd (omega arith)

end_injective : (xs ys : List Separator) → end_lines xs ≡ end_lines ys → xs ≡ ys
end_injective xs ys e = grind (arith, same_first, fronts)

abbrev made_piece : List ℕ → List Corners → List Corners → PieceBlock
made_piece i ts fs = record { id = i; triangles = ts; flats = fs }

abbrev made_parcel : List ℕ → List Corners → ParcelBlock
made_parcel i fs = record { id = i; flats = fs }

abbrev made_exact : Bool → List ℕ → List Corners → FlatsBlock
made_exact m i fs = record { merge = m; id = i; flats = fs }

exact_front : (q r : FlatsBlock) (us vs : List CertLine) → exact_lines q ++ us ≡ exact_lines r ++ vs → (q ≡ r) × (us ≡ vs)
exact_front q r us vs e = grind (arith, same_first, fronts, made_exact)

parcel_front : (q r : ParcelBlock) (us vs : List CertLine) → parcel_lines q ++ us ≡ parcel_lines r ++ vs → (q ≡ r) × (us ≡ vs)
parcel_front q r us vs e = grind (arith, same_first, fronts, made_parcel)

piece_front : (q r : PieceBlock) (us vs : List CertLine) → piece_lines q ++ us ≡ piece_lines r ++ vs → (q ≡ r) × (us ≡ vs)
piece_front q r us vs e = grind (arith, same_first, append_assoc, fronts, made_piece)

-- these lines begin no block of this kind
abbrev Apart : {A : Type 0} → (A → List CertLine) → List CertLine → Type 0
Apart {A} ls us = (x : A) (rest : List CertLine) → ls x ++ rest ≡ us → ⊥

-- blocks of one kind at the front, and what comes after them
blocks_front : {A : Type 0} (ls : A → List CertLine) → ((x y : A) (us vs : List CertLine) → ls x ++ us ≡ ls y ++ vs → (x ≡ y) × (us ≡ vs))
    → (xs ys : List A) (us vs : List CertLine) → Apart ls us → Apart ls vs → flat_map ls xs ++ us ≡ flat_map ls ys ++ vs → (xs ≡ ys) × (us ≡ vs)
blocks_front ls one [] [] us vs apart apart2 e = (refl, e)
blocks_front ls one [] (y ∷ ys) us vs apart apart2 e = absurd (apart y (flat_map ls ys ++ vs) (sym (e ∙ append_assoc (ls y) (flat_map ls ys) vs)))
blocks_front ls one (x ∷ xs) [] us vs apart apart2 e = absurd (apart2 x (flat_map ls xs ++ us) (sym (append_assoc (ls x) (flat_map ls xs) us) ∙ e))
blocks_front ls one (x ∷ xs) (y ∷ ys) us vs apart apart2 e =
    let s = one x y (flat_map ls xs ++ us) (flat_map ls ys ++ vs)
    (sym (append_assoc (ls x) (flat_map ls xs) us) ∙ e ∙ append_assoc (ls y) (flat_map ls ys) vs) in
    let t = blocks_front ls one xs ys us vs apart apart2 s.1 in
    (ap₂ (λ (a : _) (b : List _). a ∷ b) s.0 t.0, t.1)

no_piece : (qs : List ParcelBlock) (es : List FlatsBlock) (rs : List Separator) → Apart piece_lines (parcels_lines qs ++ (exacts_lines es ++ end_lines rs))
no_piece [] [] rs p rest e = cc e
no_piece [] (x ∷ es) rs p rest e = cc e
no_piece (q ∷ qs) es rs p rest e = cc e

no_parcel : (es : List FlatsBlock) (rs : List Separator) → Apart parcel_lines (exacts_lines es ++ end_lines rs)
no_parcel [] rs p rest e = cc e
no_parcel (x ∷ es) rs p rest e = cc e

no_exact : (rs : List Separator) → Apart exact_lines (end_lines rs)
no_exact rs p rest e = cc e

-- the first lines of two versions differ
first_apart : (v w : Version) → first_line v ≡ first_line w → v ≡ w
first_apart v w e = let same : Some v ≡ Some w = sym (names_itself v) ∙ ap version_named e ∙ names_itself w in cc same

same_contents : (c d : CertContent) → content_lines c ≡ content_lines d → c ≡ d
unfolding content_lines
same_contents c d e =
    let ps = blocks_front piece_lines piece_front c.pieces d.pieces _ _ (no_piece c.parcels c.exact c.pairs) (no_piece d.parcels d.exact d.pairs) e in
    let qs = blocks_front parcel_lines parcel_front c.parcels d.parcels _ _ (no_parcel c.exact c.pairs) (no_parcel d.exact d.pairs) ps.1 in
    let es = blocks_front exact_lines exact_front c.exact d.exact _ _ (no_exact c.pairs) (no_exact d.pairs) qs.1 in
    same_content ps.0 qs.0 es.0 (end_injective c.pairs d.pairs es.1)

-- two contents with one text, of whatever versions
one_value : (v w : Version) (c d : CertContent) → AllByRecursion (LineFits v) (content_lines c) → AllByRecursion (LineFits w) (content_lines d)
    → content_text v c ≡ content_text w d → c ≡ d
unfolding content_text
one_value v w c d fc fd e =
    let cut = sym (lines_named v (text_of_lines v (content_lines c))) ∙ ap lines e ∙ lines_named w (text_of_lines w (content_lines d)) in
    let parts = same_head (first_line v) (first_line w) (lines (text_of_lines v (content_lines c))) (lines (text_of_lines w (content_lines d))) cut in
    let same = first_apart v w parts.0 in
    let texts = same_lines (text_of_lines v (content_lines c)) (text_of_lines w (content_lines d)) parts.1 in
    same_contents c d (lines_injective v (content_lines c) (content_lines d) fc (rw same fd) (rw (← same) at texts))

-- ---- the values of the code

corners_fit : (t : Triangle) → CornersFit written (corner_numbers t)
corners_fit t = record {
  x1 = has_text t.a.x t.a.x_in_range;
  y1 = has_text t.a.y t.a.y_in_range;
  x2 = has_text t.b.x t.b.x_in_range;
  y2 = has_text t.b.y t.b.y_in_range;
  x3 = has_text t.c.x t.c.x_in_range;
  y3 = has_text t.c.y t.c.y_in_range;
}

all_corners_fit : (ts : List Triangle) → AllByRecursion (CornersFit written) (triangle_corners ts)
all_corners_fit [] = tt
all_corners_fit (t ∷ ts) = (corners_fit t, all_corners_fit ts)

pieces_fit : (ps : List PiecePart) → AllByRecursion (PieceFits written) (map block_of_piece ps)
pieces_fit [] = tt
pieces_fit (p ∷ ps) = grind (arith, pieces_fit ps, all_corners_fit)

parcels_fit : (ps : List ParcelPart) → AllByRecursion (ParcelFits written) (map block_of_parcel ps)
parcels_fit [] = tt
parcels_fit (p ∷ ps) = grind (arith, parcels_fit ps, all_corners_fit)

exact_fit : (es : List ExactBlock) → AllByRecursion (ExactFits written) (map exact_of es)
exact_fit [] = tt
exact_fit (e ∷ es) = (record { version = refl; id = e.named; flats = all_corners_fit e.flats }, exact_fit es)

sum-map : {A B : Type 0} (f : A → B) (g : B → ℕ) (h : A → ℕ) → ((x : A) → g (f x) ≡ h x) → (xs : List A) → sum_by g (map f xs) ≡ sum_by h xs
sum-map f g h e [] = refl
sum-map f g h e (x ∷ xs) = grind (arith, sum-map f g h e xs, sum_by-cons)

-- the blocks of the text have as many triangles as the pieces that they are of
pub triangle_sum : (ps : List PiecePart) → sum_by (λ (p : PieceBlock). length p.triangles) (map block_of_piece ps) ≡ sum_by (λ p. length p.triangles) ps
triangle_sum ps = grind (arith, sum-map, length-map)

-- the blocks of the text have as many flats as the pieces that they are of
pub flat_sum : (ps : List PiecePart) → sum_by (λ (p : PieceBlock). length p.flats) (map block_of_piece ps) ≡ sum_by (λ p. length p.flats) ps
flat_sum ps = grind (arith, sum-map, length-map)

-- the blocks of the text have as many flats as the parcels that they are of
pub parcel_flat_sum : (ps : List ParcelPart) → sum_by (λ (p : ParcelBlock). length p.flats) (map block_of_parcel ps) ≡ sum_by (λ p. length p.flats) ps
parcel_flat_sum ps = grind (arith, sum-map, length-map)

-- the exact blocks of the text have as many flats as those of the certificate
pub exact_flat_sum : (es : List ExactBlock) → sum_by (λ (e : FlatsBlock). length e.flats) (map exact_of es) ≡ sum_by (λ e. length e.flats) es
exact_flat_sum es = grind (arith, sum-map, length-map)

-- a certificate whose blocks fit
cert_fits : (v : Version) (c : Cert) → AllByRecursion (PieceFits v) (map block_of_piece c.pieces) → AllByRecursion (ParcelFits v) (map block_of_parcel c.parcels)
    → AllByRecursion (ExactFits v) (map exact_of c.exact) → Fits v (content_of c)
cert_fits v c ps qs es = record {
  pieces = ps;
  parcels = qs;
  exact = es;
  pairs = separators_fit c.pairs;
  triangles_few = omega (arith, triangle_sum c.pieces, c.triangles_few);
  flats_few = omega (arith, flat_sum c.pieces, parcel_flat_sum c.parcels, exact_flat_sum c.exact, c.flats_few);
  pairs_few = omega (arith, length-map c.pairs separator_of, c.pairs_few);
}

-- a certificate has a text of the version that is written, and one text
pub one_text : (c : Cert) (text : List ℕ) → (IsTextOfCert written c text → text ≡ cert_text c) × (text ≡ cert_text c → IsTextOfCert written c text)
one_text c text = (λ t. t.is, λ e. record { fits = fits_of written (content_of c) (cert_fits written c (pieces_fit c.pieces) (parcels_fit c.parcels) (exact_fit c.exact)); is = e })

-- two certificates have no text in common
pub one_cert : (text : List ℕ) (c d : Cert) → IsCertText text c → IsCertText text d → c ≡ d
one_cert text c d t u = cert_eq c d (one_value t.0 u.0 (content_of c) (content_of d) t.1.fits u.1.fits (sym t.1.is ∙ u.1.is))

-- ---- a certificate whose lines have a text

first_part : {A : Type 0} (P : A → Type 0) (xs ys : List A) → AllByRecursion P (xs ++ ys) → AllByRecursion P xs × AllByRecursion P ys
first_part P [] ys h = (tt, h)
first_part P (x ∷ xs) ys h = let r = first_part P xs ys h.1 in ((h.0, r.0), r.1)

-- blocks of one kind, and what comes after them
blocks_back : {A : Type 0} (v : Version) (P : A → Type 0) (ls : A → List CertLine) → ((x : A) → AllByRecursion (LineFits v) (ls x) → P x)
    → (xs : List A) (us : List CertLine) → AllByRecursion (LineFits v) (flat_map ls xs ++ us) → AllByRecursion P xs × AllByRecursion (LineFits v) us
blocks_back v P ls one [] us h = (tt, h)
blocks_back v P ls one (x ∷ xs) us h =
    let all = first_part (LineFits v) (ls x) (flat_map ls xs ++ us)
    (subst (λ (zs : List CertLine). AllByRecursion (LineFits v) zs) (append_assoc (ls x) (flat_map ls xs) us) h) in
    let more = blocks_back v P ls one xs us all.1 in
    ((one x all.0, more.0), more.1)

piece_back : (v : Version) (p : PieceBlock) → AllByRecursion (LineFits v) (piece_lines p) → PieceFits v p
piece_back v p h =
    let own = first_part (LineFits v) (map TriangleLine p.triangles) (map FlatLine p.flats) h.1 in
    record { id = h.0.0; triangles = lines_fit v false p.triangles own.0; flats = lines_fit v true p.flats own.1 }

fits_back : (v : Version) (c : Cert) → AllByRecursion (LineFits v) (content_lines (content_of c)) → Fits v (content_of c)
unfolding content_lines
fits_back v c h =
    let ps = blocks_back v (PieceFits v) piece_lines (piece_back v) (map block_of_piece c.pieces) _ h in
    let qs = blocks_back v (ParcelFits v) parcel_lines (λ q f. record { id = f.0.0; flats = lines_fit v true q.flats f.1 }) (map block_of_parcel c.parcels) _ ps.1 in
    let es = blocks_back v (ExactFits v) exact_lines (λ e f. record { version = f.0.0; id = f.0.1; flats = lines_fit v true e.flats f.1 })
    (map exact_of c.exact) (end_lines (map separator_of c.pairs)) qs.1 in
    cert_fits v c ps.0 qs.0 es.0

-- a text of a certificate has no fault
pub no_fault : (c : Cert) (text : List ℕ) → IsCertText text c → verdict text ≡ Ok (2 + length (content_lines (content_of c)))
no_fault c text t = ap verdict t.1.is ∙ fitting_text_accepted t.0 (content_of c) (fits_back t.0 c t.1.fits)

-- what a reader of a certificate's text may answer is that certificate, or out of memory
pub is_only : (r : Result Cert CertFault) (bytes : List ℕ) → IfOk r (λ x. IsCertText bytes x)
    → IfErr r (λ e. IsFirstFault e bytes) → (c : Cert) → IsCertText bytes c
    → MatchResult r (λ x. x ≡ c) (λ e. e ≡ Memory)
is_only (Ok x) bytes found fault c t = one_cert bytes x c found t
is_only (Err Memory) bytes found fault c t = refl
is_only (Err (At k n)) bytes found fault c t = let no = no_fault c bytes t in cc (no, fault)
