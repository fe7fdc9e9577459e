-- The first line, and the whole text.
use Rattle.std.proofs.Common.{bytes_eq, ◌≡◌, ℕ, ◌+◌, ◌≤◌, Bool, true, false, cond, List, [], ◌∷◌, ◌++◌, length, map, Some, None, Result, Ok, Err, IfOk, refl, sym, ap, ◌∙◌, arith, sum_by, flat_map}
use Rattle.lpis_cert.proofs.Common.{sum_by-cons, AllByRecursion, Stage, Version, first_line, version_named, most_triangles, most_flats, greatest_count, PieceBlock, ParcelBlock, CertContent}
use Rattle.lpis_cert.proofs.Common.{Cert, CertFault, IsCertText, content_of, CertLine, PieceLine, TriangleLine, Corners, CornersFit, ExactFits}
use Rattle.lpis_cert.proofs.Common.{FlatLine, content_text, text_of_lines, content_lines, piece_lines, end_lines, LineFits, PieceFits, ParcelFits, lines}
use Rattle.lpis_cert.proofs.Common.{is_lf, lines_outcome, outcome_of, at_last, LineState, InBody, first_state}
use Rattle.lpis_cert.proofs.Common.{AtEnd, Declared, grow, grow_flats, verdict, ReadsLines, parcels_lines, exacts_lines}
use Rattle.lpis_cert.specs.CertText.{ExactBlock as FlatsBlock}
use Rattle.std.proofs.lemmas.List.{append-nil}
use Rattle.lpis_cert.specs.declared.version.Version.TheVariants.{One, Two}
use Rattle.lpis_cert.specs.Faults.{none_declared}
use Rattle.lpis_cert.specs.private.Fits.{Fits}
use Rattle.lpis_cert.specs.private.Taken.{TakesLine}
use Rattle.lpis_cert.specs.private.Drafts.{flats_line, pieces_lines, stage_after, Grown, Whole}
use Rattle.lpis_cert.specs.declared.head.Owner.{Owner}
use Rattle.lpis_cert.specs.declared.head.Owner.TheVariants as owner
use Rattle.lpis_cert.proofs.SplittingLemmas.{split_some}
use Rattle.lpis_cert.proofs.WordLemmas.{lines_named}
use Rattle.lpis_cert.proofs.LineLemmas.{word_is}
use Rattle.lpis_cert.proofs.StepLemmas.{follows_both, Goes, outcome_past_text}
use Rattle.lpis_cert.proofs.BlockLemmas.{corners_go}
use Rattle.lpis_cert.proofs.DraftLemmas.{goes_on, piece_open, CanBegin, flats_open, flats_lines, pairs_goes}
use Rattle.lpis_cert.specs.declared.kind.Stage.TheVariants as stage
use Rattle.lpis_cert.specs.declared.fault.CertCode.TheVariants as code

-- ---- the first line

-- a text without a line end is truncated at line 1
pub no_line : (text : List ℕ) → lines text ≡ text ∷ [] → verdict text ≡ Err (code.Truncated, 1)
unfolding outcome_of
no_line text h = rw h refl

-- a text whose first line names no version has the fault of the version, at line 1
pub other_version : {text : List ℕ} {n : ℕ} {line rest : List ℕ} {m : ℕ} → TakesLine text n line rest m → version_named line ≡ None
    → verdict text ≡ Err (code.Version, 1)
unfolding outcome_of
other_version {rest = rest} t h = let s = split_some is_lf rest in let e = s.2 in let cut = t.split in rw (cut, e, h) refl

-- the first line is the one of the version that it names
pub named_is : (line : List ℕ) (v : Version) → version_named line ≡ Some v → line ≡ first_line v
named_is line v h = by_one (bytes_eq line (first_line One)) refl (bytes_eq line (first_line Two)) refl h
  where
    by_one : (a : Bool) → bytes_eq line (first_line One) ≡ a → (b : Bool) → bytes_eq line (first_line Two) ≡ b
        → cond a (Some One) (cond b (Some Two) None) ≡ Some v → line ≡ first_line v
    by_one true e b f h = let same : One ≡ v = cc h in rw (← same) (word_is line (first_line One) e)
    by_one false e true f h = let same : Two ≡ v = cc h in rw (← same) (word_is line (first_line Two) f)
    by_one false e false f h = absurd cc

-- a text whose first line names a version begins with that line, and has the outcome of the lines after it
pub this_version : {text line rest : List ℕ} {m : ℕ} (v : Version) → TakesLine text 1 line rest m → version_named line ≡ Some v
    → (text ≡ first_line v ++ (10 ∷ rest)) × (verdict text ≡ lines_outcome v m first_state (lines rest))
unfolding outcome_of
this_version {text} {line} {rest} {m} v t h =
    let s = split_some is_lf rest in
    let e = s.2 in
    let cut = t.split in
    let next = t.next in
    (t.parts ∙ ap (λ (l : List ℕ). l ++ (10 ∷ rest)) (named_is line v h), rw (cut, next, e, h) refl)

-- a version's first line names that version
pub names_itself : (v : Version) → version_named (first_line v) ≡ Some v
names_itself One = refl
names_itself Two = refl

-- the fault of what comes after it
verdict_after : (v : Version) (rest : List ℕ) → verdict (first_line v ++ (10 ∷ rest)) ≡ lines_outcome v 2 first_state (lines rest)
unfolding outcome_of
verdict_after v rest = let s = split_some is_lf rest in let e = s.2 in rw (lines_named v rest, e, names_itself v) refl

-- ---- one more turn

-- lines that were read, and those by which a draft grew after them, were read as one list from the start
pub follows_grown : (v : Version) (start : List ℕ) (n : ℕ) (before more : List CertLine) (p q : LineState) (text : List ℕ) (k : ℕ)
    (rest : List ℕ) (m : ℕ) → ReadsLines v start n before text k → Grown v before more p q text k rest m
    → ReadsLines v start n more rest m
follows_grown v start n before more p q text k rest m f g = let e = g.lines in rw e (follows_both f g.follows)

-- lines that were read, and then the whole rest, make up the text from their start, and each has a text
pub whole_text : (v : Version) (start : List ℕ) (n : ℕ) (before more : List CertLine) (text : List ℕ) (k : ℕ) → ReadsLines v start n before text k
    → Whole v before more text → (start ≡ text_of_lines v more) × AllByRecursion (LineFits v) more
whole_text v start n before more text k f w =
    let e = w.lines in
    let last : ReadsLines v text k w.added [] (k + length w.added) = record { parts = w.parts ∙ sym (append-nil (text_of_lines v w.added)); fits = w.fits; next = refl } in
    let all = follows_both f last in
    rw e (all.parts ∙ append-nil (text_of_lines v (before ++ w.added)), all.fits)

-- the first line and the lines after it
pub whole_cert_text : (r : Result Cert CertFault) (v : Version) (text rest : List ℕ) → text ≡ first_line v ++ (10 ∷ rest)
    → IfOk r (λ c. (rest ≡ text_of_lines v (content_lines (content_of c))) × AllByRecursion (LineFits v) (content_lines (content_of c)))
    → IfOk r (λ c. IsCertText text c)
unfolding content_text
whole_cert_text (Ok c) v text rest e h = (v, record { fits = h.1; is = e ∙ ap (λ (t : List ℕ). first_line v ++ (10 ∷ t)) h.0 })
whole_cert_text (Err x) v text rest e h = tt

-- ---- the text of each content that fits is taken

pieces_go : (v : Version) (ps : List PieceBlock) (d : Declared) → AllByRecursion (PieceFits v) ps
    → d.triangles + sum_by (λ p. length p.triangles) ps ≤ most_triangles → d.flats + sum_by (λ p. length p.flats) ps
    ≤ most_flats
    → (e : Declared) × Goes v (InBody stage.Pieces 0 0 d) (pieces_lines ps) (InBody stage.Pieces 0 0 e) × (e.flats ≡ d.flats + sum_by (λ p. length p.flats) ps) ×
    (e.triangles ≤ most_triangles)
pieces_go v [] d fits h k = (d, refl, omega arith, omega arith)
pieces_go v (p ∷ ps) d fits h k =
    let st = sum_by-cons (λ (p : PieceBlock). length p.triangles) p ps in
    let sf = sum_by-cons (λ (p : PieceBlock). length p.flats) p ps in
    let t = length p.triangles in
    let f = length p.flats in
    let e = grow d t f in
    let more = pieces_go v ps e fits.1 (omega (arith, h, st)) (omega (arith, k, sf)) in
    let first = piece_open v d p.id t f (fits.0.id, omega (arith, h, st), omega (arith, k, sf)) (omega (arith, h, st)) (omega (arith, k, sf)) in
    let body = goes_on v (InBody stage.Pieces t f e) (InBody stage.Pieces 0 f e) (InBody stage.Pieces 0 0 e) (map TriangleLine p.triangles) (map FlatLine p.flats)
    (corners_go v false p.triangles t 0 stage.Pieces f e fits.0.triangles (omega arith))
    (corners_go v true p.flats f 0 stage.Pieces 0 e fits.0.flats (omega arith)) in
    let block = goes_on v (InBody stage.Pieces 0 0 d) (InBody stage.Pieces t f e) (InBody stage.Pieces 0 0 e)
    (PieceLine p.id t f ∷ []) (map TriangleLine p.triangles ++ map FlatLine p.flats) first body in (
      more.0,
      goes_on v (InBody stage.Pieces 0 0 d) (InBody stage.Pieces 0 0 e) (InBody stage.Pieces 0 0 more.0) (piece_lines p)
          (pieces_lines ps) block more.1,
      omega (arith, more.2, sf),
      more.3,
    )

-- what a block of flats has to be, to have a text
record FlatsFit (v : Version) (w : Owner) (id : List ℕ) (cs : List Corners) : Type 0 where
  pub line : (f : ℕ) → f ≤ greatest_count → LineFits v (flats_line w id f)
  pub flats : AllByRecursion (CornersFit v) cs

-- blocks of flats, where one of them can begin and after each of them the next
flats_go : {A : Type 0} (v : Version) (P : A → Type 0) (w : A → Owner) (id : A → List ℕ) (flats : A → List Corners)
    → ((x : A) → P x → FlatsFit v (w x) (id x) (flats x)) → ((x y : A) → CanBegin (stage_after (w x)) (w y)) → (xs : List A) → AllByRecursion P xs
    → (b : Stage) (d : Declared) → ((x : A) → CanBegin b (w x)) → d.triangles ≤ most_triangles → d.flats + sum_by (λ x. length (flats x)) xs ≤ most_flats
    → (c : Stage) × (e : Declared) × Goes v (InBody b 0 0 d) (flat_map (λ x. flats_lines (w x) (id x) (flats x)) xs) (InBody c 0 0 e)
    × (e.flats ≡ d.flats + sum_by (λ x. length (flats x)) xs) × (e.triangles ≤ most_triangles)
flats_go v P w id flats fit next [] all b d can h k = (b, d, refl, omega arith, h)
flats_go v P w id flats fit next (x ∷ xs) all b d can h k =
    let sum = sum_by-cons (λ x. length (flats x)) x xs in
    let own = fit x all.0 in
    let f = length (flats x) in
    let c = stage_after (w x) in
    let e = grow_flats d f in
    let more = flats_go v P w id flats fit next xs all.1 c e (next x) h (omega (arith, k, sum)) in
    let first = flats_open v b (w x) d (id x) f (own.line f (omega (arith, k, sum))) (can x) h (omega (arith, k, sum)) in
    let body = corners_go v true (flats x) f 0 c 0 e own.flats (omega arith) in
    let block = goes_on v (InBody b 0 0 d) (InBody c 0 f e) (InBody c 0 0 e) (flats_line (w x) (id x) f ∷ []) (map FlatLine (flats x)) first body in (
      more.0,
      more.1,
      goes_on v (InBody b 0 0 d) (InBody c 0 0 e) (InBody more.0 0 0 more.1) (flats_lines (w x) (id x) (flats x))
          (flat_map (λ x. flats_lines (w x) (id x) (flats x)) xs) block more.2,
      omega (arith, more.3, sum),
      more.4,
    )

parcels_go : (v : Version) (qs : List ParcelBlock) (d : Declared) → AllByRecursion (ParcelFits v) qs → d.triangles ≤ most_triangles
    → d.flats + sum_by (λ q. length q.flats) qs ≤ most_flats
    → (c : Stage) × (e : Declared) × Goes v (InBody stage.Pieces 0 0 d) (parcels_lines qs) (InBody c 0 0 e)
    × (e.flats ≡ d.flats + sum_by (λ q. length q.flats) qs) × (e.triangles ≤ most_triangles)
parcels_go v qs d fits h k =
    flats_go v (ParcelFits v) (λ _. owner.Parcel) (λ q. q.id) (λ q. q.flats) (λ q fit. record { line = λ f few. (fit.id, few); flats = fit.flats })
    (λ _ _ _ _. refl) qs fits stage.Pieces d (λ _ _ _. refl) h k

exacts_go : (v : Version) (es : List FlatsBlock) (b : Stage) (d : Declared) → AllByRecursion (ExactFits v) es → d.triangles ≤ most_triangles
    → d.flats + sum_by (λ e. length e.flats) es ≤ most_flats
    → (c : Stage) × (e : Declared) × Goes v (InBody b 0 0 d) (exacts_lines es) (InBody c 0 0 e)
    × (e.flats ≡ d.flats + sum_by (λ e. length e.flats) es) × (e.triangles ≤ most_triangles)
exacts_go v es b d fits h k =
    flats_go v (ExactFits v) (λ e. owner.Exact e.merge) (λ e. e.id) (λ e. e.flats)
    (λ e fit. record { line = λ f few. (fit.version, fit.id, few); flats = fit.flats }) (λ _ _ _ _. refl) es fits b d (λ _ _ _. refl) h k

-- the lines of a content that fits take the first state to the end
pub certificate_goes : (v : Version) (c : CertContent) → Fits v c → Goes v first_state (content_lines c) AtEnd
unfolding content_lines
certificate_goes v c fits =
    let ps = pieces_go v c.pieces none_declared fits.pieces (omega (arith, fits.triangles_few)) (omega (arith, fits.flats_few)) in
    let qs = parcels_go v c.parcels ps.0 fits.parcels ps.3 (omega (arith, ps.2, fits.flats_few)) in
    let es = exacts_go v c.exact qs.0 qs.1 fits.exact qs.4 (omega (arith, ps.2, qs.3, fits.flats_few)) in
    goes_on v (InBody stage.Pieces 0 0 none_declared) (InBody stage.Pieces 0 0 ps.0) AtEnd (pieces_lines c.pieces)
    (parcels_lines c.parcels ++ (exacts_lines c.exact ++ end_lines c.pairs)) ps.1
    (goes_on v (InBody stage.Pieces 0 0 ps.0) (InBody qs.0 0 0 qs.1) AtEnd (parcels_lines c.parcels) (exacts_lines c.exact ++ end_lines c.pairs) qs.2
    (goes_on v (InBody qs.0 0 0 qs.1) (InBody es.0 0 0 es.1) AtEnd (exacts_lines c.exact) (end_lines c.pairs) es.2
    (pairs_goes v es.0 es.1 c.pairs fits.pairs fits.pairs_few)))

-- such a text has no fault
pub fitting_text_accepted : (v : Version) (c : CertContent) → Fits v c → verdict (content_text v c) ≡ Ok (2 + length (content_lines c))
unfolding content_text lines_outcome at_last
fitting_text_accepted v c fits =
    let body = outcome_past_text v 2 first_state AtEnd (content_lines c) [] (certificate_goes v c fits) in
    verdict_after v (text_of_lines v (content_lines c)) ∙ ap (λ (t : List ℕ). lines_outcome v 2 first_state (lines t)) (sym (append-nil (text_of_lines v (content_lines c)))) ∙ body
