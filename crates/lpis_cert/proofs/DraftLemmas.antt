-- A draft with one more block.
use Rattle.std.proofs.Common.{◌≡◌, ℕ, ◌+◌, ◌<◌, ◌≤◌, true, false, ◌&&◌, List, [], ◌∷◌, ◌++◌, length, map, Err, refl, sym, ap, subst, ◌∙◌, arith, append_assoc, sum_by}
use Rattle.std.proofs.Common.{length-append, ◌⊎◌, inl, inr}
use Rattle.std.proofs.Common.{nat_le}
use Rattle.lpis_cert.proofs.Common.{nat_tests, join_with_byte-slice_split, AllByRecursion, Stage, CertFault, One, Block, Version, most_triangles, most_flats}
use Rattle.lpis_cert.proofs.Common.{greatest_count, Corners, Separator}
use Rattle.lpis_cert.proofs.Common.{PieceBlock, ParcelBlock, CertLine, PieceLine, TriangleLine, FlatLine, PairsLine, PairLine, EndLine, spelling, line_kind, can_stand}
use Rattle.lpis_cert.proofs.Common.{text_of_lines, piece_lines, parcel_lines, exact_lines}
use Rattle.lpis_cert.proofs.Common.{end_lines, content_lines, SeparatorFits, LineFits, is_lf, lines, lines_outcome, at_last, line_step, LineState, InBody, InPairs}
use Rattle.lpis_cert.proofs.Common.{AtEnd, Declared, grow, grow_flats}
use Rattle.lpis_cert.proofs.Common.{ReadsLines, FaultFrom, LineFault, Triangle, PiecePart, ParcelPart, ExactBlock, Cert, triangle_corners, block_of_piece, block_of_parcel, exact_of, separator_of}
use Rattle.lpis_cert.proofs.Common.{is_id}
use Rattle.lpis_cert.proofs.Common.{content_of, parcels_lines, exacts_lines}
use Rattle.lpis_cert.specs.CertText.{ExactBlock as FlatsBlock}
use Rattle.std.proofs.lemmas.List.Sums.{sum_by_push}
use Rattle.std.proofs.lemmas.Grind.{flat_map-append}
use Rattle.std.proofs.lemmas.List.{append-nil, nil_from_length, map_push}
use Rattle.lpis_cert.specs.private.Drafts.{blocks, pieces_lines, flats_line, stage_after, OneMore, Grown, Whole}
use Rattle.lpis_cert.specs.declared.head.Owner.{Owner}
use Rattle.lpis_cert.specs.declared.head.Owner.TheVariants as owner
use Rattle.lpis_cert.proofs.SplittingLemmas.{split_some}
use Rattle.lpis_cert.proofs.WordLemmas.{lines_from}
use Rattle.lpis_cert.proofs.LineLemmas.{read_again}
use Rattle.lpis_cert.proofs.StepLemmas.{Goes, step_err, outcome_past_lines, fault_here, fault_after, follows_both}
use Rattle.lpis_cert.proofs.BlockLemmas.{lines_fit, corners_go, pairs_go}
use Rattle.lpis_cert.specs.declared.kind.Stage.TheVariants as stage
use Rattle.lpis_cert.specs.declared.fault.CertCode.TheVariants as code
use Rattle.lpis_cert.specs.declared.kind.Kind.TheVariants as kind
use Rattle.lpis_cert.specs.declared.part.PairLine as part

-- lines that take one state to a second, and then lines that take this to a third, take the first to the third
pub goes_on : (v : Version) (p q r : LineState) (xs ys : List CertLine) → Goes v p xs q → Goes v q ys r → Goes v p (xs ++ ys) r
goes_on v p q r [] ys f g = subst (λ (x : LineState). Goes v x ys r) (sym f) g
goes_on v p q r (x ∷ xs) ys f g = (f.0, (f.1.0, f.1.1, goes_on v f.1.0 q r xs ys f.1.2 g))

within_yes : (a b : ℕ) → a ≤ most_triangles → b ≤ most_flats → (nat_le a most_triangles && nat_le b most_flats) ≡ true
within_yes a b h k = grind (arith, nat_tests)

within_no : (a b : ℕ) → (most_triangles < a) ⊎ (most_flats < b) → (nat_le a most_triangles && nat_le b most_flats) ≡ false
within_no a b (inl h) = grind (arith, nat_tests)
within_no a b (inr h) = grind (arith, nat_tests)

-- where a piece may begin, its line, if it keeps the totals within their limits, opens a block that wants its lines
pub piece_open : (v : Version) (d : Declared) (id : List ℕ) (t f : ℕ) → LineFits v (PieceLine id t f) → d.triangles + t ≤ most_triangles
    → d.flats + f ≤ most_flats → Goes v (InBody stage.Pieces 0 0 d) (PieceLine id t f ∷ [])
    (InBody stage.Pieces t f (grow d t f))
unfolding line_step
piece_open v d id t f fits h k = grind (arith, read_again, within_yes)

-- its identifier is one
pub flats_named : (v : Version) (w : Owner) (id : List ℕ) (f : ℕ) → LineFits v (flats_line w id f) → is_id id ≡ true
flats_named v owner.Parcel id f fits = fits.0
flats_named v (owner.Exact m) id f fits = fits.1

-- the block of flats can begin
abbrev pub CanBegin : Stage → Owner → Type 0
CanBegin b w = (id : List ℕ) (f : ℕ) → can_stand (Block b) (line_kind (flats_line w id f)) ≡ true

-- where a block of flats can stand with one identifier and count, it can begin with any
pub can_begin : (b : Stage) (w : Owner) (id : List ℕ) (f : ℕ) → can_stand (Block b) (line_kind (flats_line w id f)) ≡ true → CanBegin b w
can_begin b owner.Parcel id f can = λ _ _. can
can_begin b (owner.Exact m) id f can = λ _ _. can

-- the line of a block of flats that can begin, within the limits, opens a block that wants these flats
pub flats_open : (v : Version) (b : Stage) (w : Owner) (d : Declared) (id : List ℕ) (f : ℕ) → LineFits v (flats_line w id f) → CanBegin b w
    → d.triangles ≤ most_triangles → d.flats + f ≤ most_flats → Goes v (InBody b 0 0 d) (flats_line w id f ∷ [])
    (InBody (stage_after w) 0 f (grow_flats d f))
unfolding line_step
flats_open v b owner.Parcel d id f fits can h k =
    let again = read_again v (Block b) (flats_line owner.Parcel id f) fits (can id f) in
    let few = within_yes d.triangles (d.flats + f) h k in
    (fits, (InBody stage.Parcels 0 f (grow_flats d f), rw (again, few) refl, refl))
flats_open v b (owner.Exact m) d id f fits can h k =
    let again = read_again v (Block b) (flats_line (owner.Exact m) id f) fits (can id f) in
    let few = within_yes d.triangles (d.flats + f) h k in
    (fits, (InBody stage.Exacts 0 f (grow_flats d f), rw (again, few) refl, refl))

pairs_open : (v : Version) (b : Stage) (d : Declared) (n : ℕ) → LineFits v (PairsLine n) → Goes v (InBody b 0 0 d) (PairsLine n ∷ []) (InPairs n)
unfolding line_step
pairs_open v b d n fits = grind (arith, read_again)

end_goes : (v : Version) → Goes v (InPairs 0) (EndLine ∷ []) AtEnd
unfolding line_step
end_goes v = grind (arith, read_again)

first_cut : {v : Version} {text : List ℕ} {n : ℕ} {l : CertLine} {rest : List ℕ} {m : ℕ} → LineFits v l → ReadsLines v text n (l ∷ []) rest m → lines text ≡ spelling v l ∷ lines rest
unfolding text_of_lines
first_cut {v} {l = l} {rest} fits f = ap lines (f.parts ∙ append_assoc (spelling v l) (10 ∷ []) rest) ∙ lines_from v l rest fits

-- a piece line that takes the triangles or the flats past their limit has the fault of too many
pub too_many_piece : {v : Version} {text : List ℕ} {n : ℕ} {rest : List ℕ} {m : ℕ} (d : Declared) (b : Stage) (id : List ℕ) (t f : ℕ)
    → b ≡ stage.Pieces → LineFits v (PieceLine id t f) → (most_triangles < d.triangles + t) ⊎ (most_flats < d.flats + f)
    → ReadsLines v text n (PieceLine id t f ∷ []) rest m → lines_outcome v n (InBody b 0 0 d) (lines text) ≡ Err (code.TooMany, n)
unfolding line_step
too_many_piece {v} {text} {n} {rest} d b id t f is fits h g =
    rw is (step_err v n (InBody stage.Pieces 0 0 d) code.TooMany text (spelling v (PieceLine id t f)) rest (first_cut fits g)
    (rw (read_again v (Block stage.Pieces) (PieceLine id t f) fits refl, within_no (d.triangles + t) (d.flats + f) h) refl))

too_many_step : (v : Version) (d : Declared) (b : Stage) (w : Owner) (id : List ℕ) (f : ℕ) → LineFits v (flats_line w id f) → CanBegin b w
    → most_flats < d.flats + f → line_step v (InBody b 0 0 d) (spelling v (flats_line w id f)) ≡ Err code.TooMany
unfolding line_step
too_many_step v d b owner.Parcel id f fits can h =
    rw (read_again v (Block b) (flats_line owner.Parcel id f) fits (can id f), within_no d.triangles (d.flats + f) (inr h)) refl
too_many_step v d b (owner.Exact m) id f fits can h =
    rw (read_again v (Block b) (flats_line (owner.Exact m) id f) fits (can id f), within_no d.triangles (d.flats + f) (inr h)) refl

-- the line of a block of flats that takes the flats past their limit has the fault of too many
pub too_many_flats : {v : Version} {text : List ℕ} {n : ℕ} {rest : List ℕ} {m : ℕ} (d : Declared) (b : Stage) (w : Owner) (id : List ℕ) (f : ℕ)
    → LineFits v (flats_line w id f) → CanBegin b w → most_flats < d.flats + f
    → ReadsLines v text n (flats_line w id f ∷ []) rest m → lines_outcome v n (InBody b 0 0 d) (lines text) ≡ Err (code.TooMany, n)
too_many_flats {v} {text} {n} {rest} d b w id f fits can h g =
    step_err v n (InBody b 0 0 d) code.TooMany text (spelling v (flats_line w id f)) rest (first_cut fits g) (too_many_step v d b w id f fits can h)

shorter : {v : Version} {text : List ℕ} {n : ℕ} {l : CertLine} {ls : List CertLine} {rest : List ℕ} {m : ℕ} → ReadsLines v text n (l ∷ ls) rest m → length rest < length text
unfolding text_of_lines
shorter {v} {l = l} {ls} {rest} f = grind (arith, length-append)

grown_by : {v : Version} {text : List ℕ} {n : ℕ} {rest : List ℕ} {m : ℕ} {l : CertLine} {ls : List CertLine} (before more : List CertLine) (p q : LineState)
    → ReadsLines v text n (l ∷ ls) rest m → more ≡ before ++ (l ∷ ls) → Goes v p (l ∷ ls) q
    → Grown v before more p q text n rest m
grown_by {l = l} {ls} before more p q f e g = record { added = l ∷ ls; follows = f; lines = e; state = outcome_past_lines p q f g; shorter = shorter f }

one_more_piece : (ps : List PieceBlock) (p : PieceBlock) → blocks (ps ++ p ∷ []) [] [] ≡ blocks ps [] [] ++ piece_lines p
one_more_piece ps p =
    cc (append-nil (pieces_lines (ps ++ p ∷ [])), append-nil (piece_lines p), append-nil (pieces_lines ps), flat_map-append piece_lines ps (p ∷ []))

one_more_parcel : (ps : List PieceBlock) (qs : List ParcelBlock) (q : ParcelBlock) → blocks ps (qs ++ q ∷ []) [] ≡ blocks ps qs [] ++ parcel_lines q
one_more_parcel ps qs q =
    cc (
      append-nil (parcels_lines (qs ++ q ∷ [])),
      append-nil (parcels_lines qs),
      flat_map-append parcel_lines qs (q ∷ []),
      append-nil (parcel_lines q),
      append_assoc (pieces_lines ps) (parcels_lines qs) (parcel_lines q),
    )

one_more_exact : (ps : List PieceBlock) (qs : List ParcelBlock) (es : List FlatsBlock) (e : FlatsBlock) → blocks ps qs (es ++ e ∷ []) ≡ blocks ps qs es ++ exact_lines e
one_more_exact ps qs es e =
    cc (
      flat_map-append exact_lines es (e ∷ []),
      append-nil (exact_lines e),
      append_assoc (parcels_lines qs) (exacts_lines es) (exact_lines e),
      append_assoc (pieces_lines ps) (parcels_lines qs ++ exacts_lines es) (exact_lines e),
    )

-- before a parcel's block there is no exact one
abbrev pub NoneBefore : Owner → ℕ → Type 0
NoneBefore owner.Parcel n = n ≡ 0
NoneBefore (owner.Exact m) n = Unit {0}

-- if parcels can stand only while there is no exact block, a parcel's block that can begin has none before it
pub none_before : (b : Stage) (w : Owner) (n : ℕ) → CanBegin b w → (can_stand (Block b) kind.Parcel ≡ true → n ≡ 0) → NoneBefore w n
none_before b owner.Parcel n can none = none (can [] 0)
none_before b (owner.Exact m) n can none = tt

-- before the last piece there is none
pub none_yet : (b : Stage) (n : ℕ) → b ≡ stage.Pieces → (can_stand (Block b) kind.Parcel ≡ true → n ≡ 0) → n ≡ 0
none_yet b n is none = none (rw is refl)

-- the lines of a block of flats: the one that begins it, with their count, and then a line for each
abbrev pub flats_lines : Owner → List ℕ → List Corners → List CertLine
flats_lines w id cs = flats_line w id (length cs) ∷ map FlatLine cs

-- the lines of the blocks with one more
pub one_more_lines : (w : Owner) (ps : List PieceBlock) (id : List ℕ) (fs : List Triangle) (qs : List ParcelPart) (es : List ExactBlock) (qs2 : List ParcelPart)
    (es2 : List ExactBlock) → OneMore w id fs qs es qs2 es2 → NoneBefore w (length es)
    → blocks ps (map block_of_parcel qs2) (map exact_of es2) ≡ blocks ps (map block_of_parcel qs) (map exact_of es) ++ flats_lines w id (triangle_corners fs)
one_more_lines owner.Parcel ps id fs qs es qs2 es2 (q, more, named, flats, same) none =
    let no : es ≡ [] = nil_from_length es none in
    rw (more, same, no, map_push block_of_parcel qs q, ← named, ← flats) (one_more_parcel ps (map block_of_parcel qs) (block_of_parcel q))
one_more_lines (owner.Exact m) ps id fs qs es qs2 es2 (b, more, merge, named, flats, same) none =
    rw (more, same, map_push exact_of es b, ← merge, ← named, ← flats) (one_more_exact ps (map block_of_parcel qs) (map exact_of es) (exact_of b))

-- their flats
pub one_more_flats : (w : Owner) (id : List ℕ) (fs : List Triangle) (qs : List ParcelPart) (es : List ExactBlock) (qs2 : List ParcelPart) (es2 : List ExactBlock)
    → OneMore w id fs qs es qs2 es2
    → sum_by (λ (q : ParcelPart). length q.flats) qs2 + sum_by (λ (b : ExactBlock). length b.flats) es2
    ≡ sum_by (λ (q : ParcelPart). length q.flats) qs + sum_by (λ (b : ExactBlock). length b.flats) es + length fs
one_more_flats owner.Parcel id fs qs es qs2 es2 (q, more, named, flats, same) =
    rw (more, same, ← flats) (omega (arith, sum_by_push (λ (q : ParcelPart). length q.flats) qs q))
one_more_flats (owner.Exact m) id fs qs es qs2 es2 (b, more, merge, named, flats, same) =
    rw (more, same, ← flats) (omega (arith, sum_by_push (λ (b : ExactBlock). length b.flats) es b))

-- after a block of flats there is no piece, and after a parcel's no exact block
pub stage_parcels : (w : Owner) → stage_after w ≡ stage.Pieces → ⊥
stage_parcels owner.Parcel e = cc e
stage_parcels (owner.Exact m) e = cc e

-- where a parcel can still stand after one more block of flats, there is no exact block
pub stage_exact : (w : Owner) (id : List ℕ) (fs : List Triangle) (qs : List ParcelPart) (es : List ExactBlock) (qs2 : List ParcelPart) (es2 : List ExactBlock)
    → OneMore w id fs qs es qs2 es2 → NoneBefore w (length es) → can_stand (Block (stage_after w)) kind.Parcel ≡ true → length es2 ≡ 0
stage_exact owner.Parcel id fs qs es qs2 es2 (q, more, named, flats, same) none can = rw same none
stage_exact (owner.Exact m) id fs qs es qs2 es2 one none can = absurd (cc can)

-- the lines of one more piece, each taken, grow a draft that has no parcel and no exact block yet
pub piece_grown : {v : Version} {start : List ℕ} {n : ℕ} {next : List ℕ} {m : ℕ} {middle : List ℕ} {k : ℕ} {rest : List ℕ} {j : ℕ}
    (ps ps2 : List PieceBlock) (qs : List ParcelBlock) (es : List FlatsBlock) (p : PieceBlock) (b : Stage) (d : Declared) (t f : ℕ)
    → ps2 ≡ ps ++ p ∷ [] → b ≡ stage.Pieces → length qs ≡ 0 → length es ≡ 0 → LineFits v (PieceLine p.id t f) → d.triangles + t ≤ most_triangles → d.flats + f ≤ most_flats
    → length p.triangles ≡ t → length p.flats ≡ f
    → ReadsLines v start n (PieceLine p.id t f ∷ []) next m → ReadsLines v next m (map TriangleLine p.triangles) middle k
    → ReadsLines v middle k (map FlatLine p.flats) rest j
    → Grown v (blocks ps qs es) (blocks ps2 qs es) (InBody b 0 0 d) (InBody b 0 0 (grow d t f)) start n rest j
piece_grown {v} ps ps2 qs es p b d t f e is none none2 fits h1 h2 lt lf f1 f2 f3 =
    let no : qs ≡ [] = nil_from_length qs none in
    let no2 : es ≡ [] = nil_from_length es none2 in
    let all = follows_both f1 (follows_both f2 f3) in
    let goes = goes_on v (InBody stage.Pieces 0 0 d) (InBody stage.Pieces t f (grow d t f))
    (InBody stage.Pieces 0 0 (grow d t f)) (PieceLine p.id t f ∷ []) (map TriangleLine p.triangles
    ++ map FlatLine p.flats)
    (piece_open v d p.id t f fits h1 h2)
    (goes_on v (InBody stage.Pieces t f (grow d t f)) (InBody stage.Pieces 0 f (grow d t f)) (InBody stage.Pieces 0 0 (grow d t f)) (map TriangleLine p.triangles)
    (map FlatLine p.flats)
    (corners_go v false p.triangles t 0 stage.Pieces f (grow d t f) (lines_fit v false p.triangles f2.fits) (omega arith))
    (corners_go v true p.flats f 0 stage.Pieces 0 (grow d t f) (lines_fit v true p.flats f3.fits) (omega arith))) in
    let same : PieceLine p.id (length p.triangles) (length p.flats) ≡ PieceLine p.id t f = rw (lt, lf) refl in
    let lines : blocks (ps ++ p ∷ []) [] [] ≡ blocks ps [] []
    ++ (PieceLine p.id t f ∷ (map TriangleLine p.triangles ++ map FlatLine p.flats)) = one_more_piece ps p
    ∙ ap (λ (x : CertLine). blocks ps [] [] ++ (x ∷ (map TriangleLine p.triangles ++ map FlatLine p.flats))) same in
    rw (e, is, no, no2) (grown_by (blocks ps [] []) (blocks (ps ++ p ∷ []) [] []) (InBody stage.Pieces 0 0 d)
    (InBody stage.Pieces 0 0 (grow d t f)) all lines goes)

-- the lines of one more block of flats, each taken, grow the lines of a draft by just these
pub flats_grown : {v : Version} {start : List ℕ} {n : ℕ} {next : List ℕ} {m : ℕ} {rest : List ℕ} {j : ℕ} (w : Owner) (before more : List CertLine) (id : List ℕ)
    (cs : List Corners) (b : Stage) (d : Declared) (f : ℕ)
    → more ≡ before ++ flats_lines w id cs → LineFits v (flats_line w id f) → CanBegin b w → d.triangles ≤ most_triangles → d.flats + f ≤ most_flats
    → length cs ≡ f
    → ReadsLines v start n (flats_line w id f ∷ []) next m → ReadsLines v next m (map FlatLine cs) rest j
    → Grown v before more (InBody b 0 0 d) (InBody (stage_after w) 0 0 (grow_flats d f)) start n rest j
flats_grown {v} w before more id cs b d f e fits can h1 h2 lf f1 f2 =
    let all = follows_both f1 f2 in
    let c = stage_after w in
    let goes = goes_on v (InBody b 0 0 d) (InBody c 0 f (grow_flats d f)) (InBody c 0 0 (grow_flats d f)) (flats_line w id f ∷ []) (map FlatLine cs)
    (flats_open v b w d id f fits can h1 h2) (corners_go v true cs f 0 c 0 (grow_flats d f) (lines_fit v true cs f2.fits) (omega arith)) in
    let lines : more ≡ before ++ (flats_line w id f ∷ map FlatLine cs) = e ∙ ap (λ (k : ℕ). before ++ (flats_line w id k ∷ map FlatLine cs)) lf in
    grown_by before more (InBody b 0 0 d) (InBody c 0 0 (grow_flats d f)) all lines goes

-- the lines from the pairs on
pub pairs_follow : {v : Version} {start : List ℕ} {n : ℕ} {count : ℕ} {next : List ℕ} {m : ℕ} {last : List ℕ} {k : ℕ} {rest : List ℕ} {j : ℕ} (ps : List Separator)
    → length ps ≡ count
    → ReadsLines v start n (PairsLine count ∷ []) next m → ReadsLines v next m (map PairLine ps) last k → ReadsLines v last k (EndLine ∷ []) rest j
    → ReadsLines v start n (end_lines ps) rest j
pairs_follow {start = start} {n} {rest = rest} {j} ps len f1 f2 f3 = grind (arith, follows_both f1 (follows_both f2 f3), follows_both f2 f3)

-- the lines from the pairs on, within the limits, take the state between two blocks to the end
pub pairs_goes : (v : Version) (b : Stage) (d : Declared) (ps : List Separator) → AllByRecursion SeparatorFits ps → length ps ≤ greatest_count
    → Goes v (InBody b 0 0 d) (end_lines ps) AtEnd
pairs_goes v b d ps fits le =
    goes_on v (InBody b 0 0 d) (InPairs (length ps)) AtEnd (PairsLine (length ps) ∷ []) (map PairLine ps ++ (EndLine ∷ [])) (pairs_open v b d (length ps) le)
    (goes_on v (InPairs (length ps)) (InPairs 0) AtEnd (map PairLine ps) (EndLine ∷ []) (pairs_go v ps (length ps) 0 fits (omega arith)) (end_goes v))

trailing : (v : Version) (m : ℕ) (rest : List ℕ) → 0 < length rest → lines_outcome v m AtEnd (lines rest) ≡ Err (code.TextAfterEnd, m)
unfolding lines_outcome at_last line_step
trailing v m rest some = grind (arith, nat_tests, split_some is_lf rest, join_with_byte-slice_split 10 rest)

-- a text of nothing but the lines from the pairs on is all that the blocks so far lack of a certificate
pub whole_of : {v : Version} {start : List ℕ} {n : ℕ} {rest : List ℕ} {m : ℕ} (ps : List PieceBlock) (qs : List ParcelBlock) (es : List FlatsBlock) (rs : List Separator)
    → ReadsLines v start n (end_lines rs) rest m → length rest ≡ 0
    → Whole v (blocks ps qs es) (content_lines (record { pieces = ps; parcels = qs; exact = es; pairs = rs })) start
unfolding content_lines
whole_of {rest = rest} ps qs es rs f none = grind (arith, nil_from_length, append-nil, append_assoc)

-- ---- faults inside a block

-- the first fault after a piece line that opens its block is the first from that line on
pub piece_fault : {v : Version} {text : List ℕ} {n : ℕ} {rest : List ℕ} {m : ℕ} (x : CertFault) (d : Declared) (b : Stage) (id : List ℕ) (t f : ℕ)
    → b ≡ stage.Pieces → LineFits v (PieceLine id t f) → d.triangles + t ≤ most_triangles
    → d.flats + f ≤ most_flats
    → ReadsLines v text n (PieceLine id t f ∷ []) rest m → FaultFrom v x m (InBody stage.Pieces t f (grow d t f)) rest → FaultFrom v x n (InBody b 0 0 d) text
piece_fault {v} x d b id t f is fits h1 h2 g k =
    rw is (fault_after x (InBody stage.Pieces 0 0 d) (InBody stage.Pieces t f (grow d t f)) g (piece_open v d id t f fits h1 h2) k)

-- the first fault after a piece line and all of its triangle lines is the first from the piece line on
pub flat_fault : {v : Version} {text : List ℕ} {n : ℕ} {rest : List ℕ} {m : ℕ} {middle : List ℕ} {k : ℕ} (x : CertFault) (d : Declared) (b : Stage) (id : List ℕ) (t f : ℕ)
    (ts : List Corners)
    → b ≡ stage.Pieces → LineFits v (PieceLine id t f)
    → d.triangles + t ≤ most_triangles → d.flats + f ≤ most_flats
    → ReadsLines v text n (PieceLine id t f ∷ []) rest m → length ts ≡ t
    → ReadsLines v rest m (map TriangleLine ts) middle k → FaultFrom v x k (InBody stage.Pieces 0 f (grow d t f)) middle
    → FaultFrom v x n (InBody b 0 0 d) text
flat_fault {v} x d b id t f ts is fits h1 h2 g lt g2 h =
    piece_fault x d b id t f is fits h1 h2 g
    (fault_after x (InBody stage.Pieces t f (grow d t f)) (InBody stage.Pieces 0 f (grow d t f)) g2
    (corners_go v false ts t 0 stage.Pieces f (grow d t f) (lines_fit v false ts g2.fits) (omega arith)) h)

-- the first fault after the line that opens a block of flats is the first from that line on
pub flats_fault : {v : Version} {text : List ℕ} {n : ℕ} {rest : List ℕ} {m : ℕ} (x : CertFault) (d : Declared) (b : Stage) (w : Owner) (id : List ℕ) (f : ℕ)
    → LineFits v (flats_line w id f) → CanBegin b w → d.triangles ≤ most_triangles → d.flats + f ≤ most_flats
    → ReadsLines v text n (flats_line w id f ∷ []) rest m → FaultFrom v x m (InBody (stage_after w) 0 f (grow_flats d f)) rest
    → FaultFrom v x n (InBody b 0 0 d) text
flats_fault {v} x d b w id f fits can h1 h2 g k =
    fault_after x (InBody b 0 0 d) (InBody (stage_after w) 0 f (grow_flats d f)) g (flats_open v b w d id f fits can h1 h2) k

-- the first fault after the line that counts the pairs is the first from that line on
pub pairs_fault : {v : Version} {text : List ℕ} {n : ℕ} {rest : List ℕ} {m : ℕ} (x : CertFault) (b : Stage) (d : Declared) (count : ℕ) → count ≤ greatest_count
    → ReadsLines v text n (PairsLine count ∷ []) rest m → FaultFrom v x m (InPairs count) rest → FaultFrom v x n (InBody b 0 0 d) text
pairs_fault {v} x b d count le g h = fault_after x (InBody b 0 0 d) (InPairs count) g (pairs_open v b d count le) h

-- after all pair lines, a fault of the end line is the first from the line that counts the pairs on
pub end_fault : {v : Version} {text : List ℕ} {n : ℕ} {rest : List ℕ} {m : ℕ} {last : List ℕ} {k : ℕ} (x : CertFault) (b : Stage) (d : Declared) (count : ℕ)
    (ps : List Separator) → count ≤ greatest_count
    → ReadsLines v text n (PairsLine count ∷ []) rest m → AllByRecursion SeparatorFits ps → length ps ≡ count
    → ReadsLines v rest m (map PairLine ps) last k → LineFault v x k (One kind.End) last → FaultFrom v x n (InBody b 0 0 d)
    text
end_fault {v} {last = last} {k} x b d count ps le g fits len g2 h =
    pairs_fault x b d count le g
    (fault_after x (InPairs count) (InPairs 0) g2 (pairs_go v ps count 0 fits (omega arith)) (fault_here v x k (InPairs 0) (One kind.End) last refl h))

-- bytes after the end line are the fault of text after the end, at the line that they begin
pub trailing_fault : {v : Version} {text : List ℕ} {n : ℕ} {rest : List ℕ} {m : ℕ} (b : Stage) (d : Declared) (ps : List Separator)
    → AllByRecursion SeparatorFits ps → length ps ≤ greatest_count → ReadsLines v text n (end_lines ps) rest m
    → 0 < length rest
    → lines_outcome v n (InBody b 0 0 d) (lines text) ≡ Err (code.TextAfterEnd, m)
trailing_fault {v} {rest = rest} {m} b d ps fits le f some = outcome_past_lines (InBody b 0 0 d) AtEnd f (pairs_goes v b d ps fits le) ∙ trailing v m rest some

-- ---- values of the code

-- the blocks of pieces and of one more are those before, and one of its identifier, triangles and flats
pub piece_pushed : (ps : List PiecePart) (p : PiecePart) (id : List ℕ) (ts fs : List Triangle) → p.id ≡ id → p.triangles ≡ ts → p.flats ≡ fs
    → map block_of_piece (ps ++ p ∷ []) ≡ map block_of_piece ps ++ record { id = id; triangles = triangle_corners ts; flats = triangle_corners fs } ∷ []
piece_pushed ps p id ts fs e f g = map_push block_of_piece ps p ∙ rw (e, f, g) refl

-- a text that is the whole rest for these parts is so for the certificate that consists of them
pub whole_cert : (v : Version) (c : Cert) (ps : List PiecePart) (qs : List ParcelPart) (es : List ExactBlock) (rs : List part.PairLine) (before : List CertLine) (text : List ℕ) → c.pieces ≡ ps
    → c.parcels ≡ qs → c.exact ≡ es → c.pairs ≡ rs
    → Whole v before (content_lines (record { pieces = map block_of_piece ps; parcels = map block_of_parcel qs; exact = map exact_of es; pairs = map separator_of rs })) text
    → Whole v before (content_lines (content_of c)) text
whole_cert v c ps qs es rs before text e f x g w = rw (e, f, x, g) w
