-- A text without a fault is that of a certificate.
use Rattle.std.proofs.Common.{sum_by, flat_map, ◌≡◌, ℕ, zero, suc, ◌+◌, ◌≤◌, Bool, true, false, List, [], ◌∷◌, ◌++◌, length, map, Option, Some, None, Result, Ok}
use Rattle.std.proofs.Common.{Err, refl, sym, ap, ap₂, subst}
use Rattle.std.proofs.Common.{◌∙◌, arith, append_assoc}
use Rattle.lpis_cert.proofs.Common.{AllByRecursion, join_with_byte, nat_tests, sum_by-cons, join_with_byte-slice_split, is_id, Stage, One}
use Rattle.lpis_cert.proofs.Common.{Block, CertCode}
use Rattle.lpis_cert.proofs.Common.{Cert, Version, most_triangles, most_flats, greatest_count, first_line, version_named, IsCertText, Corners, Separator, PieceBlock, ParcelBlock, CertContent}
use Rattle.lpis_cert.proofs.Common.{CertLine, PieceLine, TriangleLine}
use Rattle.lpis_cert.proofs.Common.{line_kind, FlatLine, ParcelLine, ExactLine, PairsLine, PairLine, EndLine, spelling, text_of_lines, piece_lines, parcel_lines, exact_lines, end_lines, content_lines}
use Rattle.lpis_cert.proofs.Common.{content_text}
use Rattle.lpis_cert.proofs.Common.{LineFits, CornersFit, SeparatorFits, PieceFits, ParcelFits, ExactFits, can_stand, read_line, lines, lines_outcome}
use Rattle.lpis_cert.proofs.Common.{outcome_of, at_last, line_step, LineState, InBody, first_state}
use Rattle.lpis_cert.proofs.Common.{InPairs, AtEnd, Declared, grow, grow_flats, verdict}
use Rattle.lpis_cert.specs.CertText.{ExactBlock as FlatsBlock}
use Rattle.lpis_cert.specs.Versions.{has_exact}
use Rattle.std.proofs.lemmas.List.{nil_from_length}
use Rattle.lpis_cert.specs.private.Fits.{Fits}
use Rattle.lpis_cert.specs.private.Drafts.{flats_line, stage_after}
use Rattle.lpis_cert.specs.declared.head.Owner.{Owner}
use Rattle.lpis_cert.specs.declared.head.Owner.TheVariants as owner
use Rattle.lpis_cert.specs.Faults.{at_line, open_block, within, outcome_named}
use Rattle.lpis_cert.proofs.LineLemmas.{ReadsAs, read_takes, bind_ok}
use Rattle.lpis_cert.proofs.ReadLemmas.{named_is}
use Rattle.lpis_cert.proofs.LawLemmas.{fits_of}
use Rattle.lpis_cert.proofs.ContentLemmas.{cert_of}
use Rattle.lpis_cert.specs.declared.kind.Stage.TheVariants as stage
use Rattle.lpis_cert.specs.declared.kind.Kind.TheVariants as kind

-- ---- what a text may be from a state on

-- in a body: a content that fits what was declared before
record Remains (v : Version) (b : Stage) (d : Declared) (c : CertContent) : Type 0 where
  pub pieces : AllByRecursion (PieceFits v) c.pieces
  pub parcels : AllByRecursion (ParcelFits v) c.parcels
  pub exact : AllByRecursion (ExactFits v) c.exact
  pub pairs : AllByRecursion SeparatorFits c.pairs
  pub no_pieces : can_stand (Block b) kind.Piece ≡ false → c.pieces ≡ []
  pub no_parcels : can_stand (Block b) kind.Parcel ≡ false → c.parcels ≡ []
  pub triangles_few : d.triangles + sum_by (λ p. length p.triangles) c.pieces ≤ most_triangles
  pub flats_few : d.flats + (sum_by (λ p. length p.flats) c.pieces + sum_by (λ p. length p.flats) c.parcels + sum_by (λ b. length b.flats) c.exact)
      ≤ most_flats
  pub pairs_few : length c.pairs ≤ greatest_count

-- the triangles and flats that the block still wants, and then such a content
record Left (v : Version) (b : Stage) (t f : ℕ) (d : Declared) (ts fs : List Corners) (c : CertContent) (text : List ℕ) : Type 0 where
  pub triangle_count : length ts ≡ t
  pub flat_count : length fs ≡ f
  pub triangles : AllByRecursion (CornersFit v) ts
  pub flats : AllByRecursion (CornersFit v) fs
  pub content : Remains v b d c
  pub spelled : text ≡ text_of_lines v (map TriangleLine ts ++ (map FlatLine fs ++ content_lines c))

abbrev May : Version → LineState → List ℕ → Type 0
May v (InBody b t f d) text = (ts : List Corners) × (fs : List Corners) × (c : CertContent) × Left v b t f d ts fs c text
May v (InPairs n) text = (ps : List Separator) × (length ps ≡ n) × AllByRecursion SeparatorFits ps × (text ≡ text_of_lines v (map PairLine ps ++ (EndLine ∷ [])))
May v AtEnd text = text ≡ []

-- what was declared is within the limits
abbrev Small : LineState → Type 0
Small (InBody b t f d) = (d.triangles ≤ most_triangles) × (d.flats ≤ most_flats)
Small _ = Unit {0}

line_more : (v : Version) (l : CertLine) (ls : List CertLine) (line rest : List ℕ) → line ≡ spelling v l → rest ≡ text_of_lines v ls
    → line ++ (10 ∷ rest) ≡ text_of_lines v (l ∷ ls)
unfolding text_of_lines
line_more v l ls line rest e g = ap₂ (λ (x y : List ℕ). x ++ (10 ∷ y)) e g

-- ---- one line back

triangle_more : (v : Version) (b : Stage) (t f : ℕ) (d : Declared) (ts fs : List Corners) (c : CertContent) (line rest : List ℕ) (l : CertLine) → ReadsAs v (One kind.Triangle) line l
    → Left v b t f d ts fs c rest
    → May v (InBody b (suc t) f d) (line ++ (10 ∷ rest))
triangle_more v b t f d ts fs c line rest (TriangleLine x) r m = (
  x ∷ ts,
  fs,
  c,
  record {
    triangle_count = ap suc m.triangle_count;
    flat_count = m.flat_count;
    triangles = (r.fits, m.triangles);
    flats = m.flats;
    content = m.content;
    spelled = line_more v (TriangleLine x) (map TriangleLine ts ++ (map FlatLine fs ++ content_lines c)) line rest r.text m.spelled;
  },
)
triangle_more v b t f d ts fs c line rest _ r m = let no = r.stands in absurd (cc no)

-- no triangle is left
bare : (v : Version) (b : Stage) (f : ℕ) (d : Declared) (ts fs : List Corners) (c : CertContent) (text : List ℕ) → Left v b 0 f d ts fs c text → Left v b 0 f d [] fs c text
bare v b f d ts fs c text m = grind (arith, nil_from_length)

flat_more : (v : Version) (b : Stage) (f : ℕ) (d : Declared) (fs : List Corners) (c : CertContent) (line rest : List ℕ) (l : CertLine) → ReadsAs v (One kind.Flat) line l
    → Left v b 0 f d [] fs c rest
    → May v (InBody b 0 (suc f) d) (line ++ (10 ∷ rest))
flat_more v b f d fs c line rest (FlatLine x) r m = (
  [],
  x ∷ fs,
  c,
  record {
    triangle_count = refl;
    flat_count = ap suc m.flat_count;
    triangles = tt;
    flats = (r.fits, m.flats);
    content = m.content;
    spelled = line_more v (FlatLine x) (map FlatLine fs ++ content_lines c) line rest r.text m.spelled;
  },
)
flat_more v b f d fs c line rest _ r m = let no = r.stands in absurd (cc no)

-- ---- blocks

-- the block wants no more
wanting_none : (v : Version) (b : Stage) (d : Declared) (c : CertContent) (text : List ℕ) → Remains v b d c → text ≡ text_of_lines v (content_lines c) → May v (InBody b 0 0 d) text
wanting_none v b d c text m spelled =
    ([], [], c, record { triangle_count = refl; flat_count = refl; triangles = tt; flats = tt; content = m; spelled = spelled })

regrouped : (a b c q : List CertLine) → a ++ (b ++ (c ++ q)) ≡ ((a ++ b) ++ c) ++ q
regrouped a b c q = sym (append_assoc a b (c ++ q)) ∙ sym (append_assoc (a ++ b) c q)

piece_more : (v : Version) (d : Declared) (id : List ℕ) (ts fs : List Corners) (c : CertContent) (line rest : List ℕ) → line ≡ spelling v (PieceLine id (length ts) (length fs))
    → is_id id ≡ true
    → Left v stage.Pieces (length ts) (length fs) (grow d (length ts) (length fs)) ts fs c rest → May v (InBody stage.Pieces 0 0 d) (line ++ (10 ∷ rest))
unfolding content_lines
piece_more v d id ts fs c line rest spelled version_named m =
    let p : PieceBlock = record { id = id; triangles = ts; flats = fs } in
    let st = sum_by-cons (λ (p : PieceBlock). length p.triangles) p c.pieces in
    let sf = sum_by-cons (λ (p : PieceBlock). length p.flats) p c.pieces in
    let own = m.content in
    let more : Remains v stage.Pieces d (record { pieces = p ∷ c.pieces; parcels = c.parcels; exact = c.exact; pairs = c.pairs }) = record {
      pieces = (record { id = version_named; triangles = m.triangles; flats = m.flats }, own.pieces);
      parcels = own.parcels;
      exact = own.exact;
      pairs = own.pairs;
      no_pieces = λ other. absurd (cc other);
      no_parcels = λ other. absurd (cc other);
      triangles_few = omega (arith, st, own.triangles_few);
      flats_few = omega (arith, sf, own.flats_few);
      pairs_few = own.pairs_few;
    } in
    wanting_none v stage.Pieces d _ _ more
    (line_more v (PieceLine id (length ts) (length fs)) (map TriangleLine ts ++ (map FlatLine fs ++ content_lines c)) line rest spelled m.spelled
    ∙ ap (λ (ls : List CertLine). text_of_lines v (PieceLine id (length ts) (length fs) ∷ ls))
    (regrouped (map TriangleLine ts) (map FlatLine fs) (flat_map piece_lines c.pieces)
    (flat_map parcel_lines c.parcels ++ (flat_map exact_lines c.exact ++ end_lines c.pairs))))

parcel_more : (v : Version) (b : Stage) (d : Declared) (id : List ℕ) (fs : List Corners) (qs : List ParcelBlock) (es : List FlatsBlock) (rs : List Separator)
    (line rest : List ℕ) → line ≡ spelling v (ParcelLine id (length fs)) → is_id id ≡ true → can_stand (Block b) kind.Parcel ≡ true
    → Left v stage.Parcels 0 (length fs) (grow_flats d (length fs)) [] fs (record { pieces = []; parcels = qs; exact = es; pairs = rs }) rest
    → May v (InBody b 0 0 d) (line ++ (10 ∷ rest))
unfolding content_lines
parcel_more v b d id fs qs es rs line rest spelled version_named can m =
    let q : ParcelBlock = record { id = id; flats = fs } in
    let sf = sum_by-cons (λ (p : ParcelBlock). length p.flats) q qs in
    let own = m.content in
    let more : Remains v b d (record { pieces = []; parcels = q ∷ qs; exact = es; pairs = rs }) = record {
      pieces = tt;
      parcels = (record { id = version_named; flats = m.flats }, own.parcels);
      exact = own.exact;
      pairs = own.pairs;
      no_pieces = λ _. refl;
      no_parcels = λ other. absurd (cc (can, other));
      triangles_few = own.triangles_few;
      flats_few = omega (arith, sf, own.flats_few);
      pairs_few = own.pairs_few;
    } in
    let after = flat_map parcel_lines qs in
    let last = flat_map exact_lines es ++ end_lines rs in
    wanting_none v b d _ _ more
    (line_more v (ParcelLine id (length fs)) (map FlatLine fs ++ (after ++ last)) line rest spelled m.spelled
    ∙ ap (λ (ls : List CertLine). text_of_lines v (ParcelLine id (length fs) ∷ ls)) (sym (append_assoc (map FlatLine fs) after last)))

exact_more : (v : Version) (b : Stage) (d : Declared) (side : Bool) (id : List ℕ) (fs : List Corners) (es : List FlatsBlock) (rs : List Separator)
    (line rest : List ℕ) → line ≡ spelling v (ExactLine side id (length fs)) → is_id id ≡ true → has_exact v ≡ true
    → Left v stage.Exacts 0 (length fs) (grow_flats d (length fs)) [] fs (record { pieces = []; parcels = []; exact = es; pairs = rs }) rest
    → May v (InBody b 0 0 d) (line ++ (10 ∷ rest))
unfolding content_lines
exact_more v b d side id fs es rs line rest spelled version_named known m =
    let x : FlatsBlock = record { merge = side; id = id; flats = fs } in
    let sf = sum_by-cons (λ (p : FlatsBlock). length p.flats) x es in
    let own = m.content in
    let more : Remains v b d (record { pieces = []; parcels = []; exact = x ∷ es; pairs = rs }) = record {
      pieces = tt;
      parcels = tt;
      exact = (record { version = known; id = version_named; flats = m.flats }, own.exact);
      pairs = own.pairs;
      no_pieces = λ _. refl;
      no_parcels = λ _. refl;
      triangles_few = own.triangles_few;
      flats_few = omega (arith, sf, own.flats_few);
      pairs_few = own.pairs_few;
    } in
    let after = flat_map exact_lines es in
    wanting_none v b d _ _ more
    (line_more v (ExactLine side id (length fs)) (map FlatLine fs ++ (after ++ end_lines rs)) line rest spelled m.spelled
    ∙ ap (λ (ls : List CertLine). text_of_lines v (ExactLine side id (length fs) ∷ ls)) (sym (append_assoc (map FlatLine fs) after (end_lines rs))))

pairs_more : (v : Version) (b : Stage) (d : Declared) (ps : List Separator) (line rest : List ℕ) → Small (InBody b 0 0 d)
    → line ≡ spelling v (PairsLine (length ps)) → length ps ≤ greatest_count → AllByRecursion SeparatorFits ps
    → rest ≡ text_of_lines v (map PairLine ps ++ (EndLine ∷ [])) → May v (InBody b 0 0 d) (line ++ (10 ∷ rest))
unfolding content_lines
pairs_more v b d ps line rest s spelled few fits e =
    let more : Remains v b d (record { pieces = []; parcels = []; exact = []; pairs = ps }) = record {
      pieces = tt;
      parcels = tt;
      exact = tt;
      pairs = fits;
      no_pieces = λ _. refl;
      no_parcels = λ _. refl;
      triangles_few = omega (arith, s.0);
      flats_few = omega (arith, s.1);
      pairs_few = few;
    } in
    wanting_none v b d _ _ more (line_more v (PairsLine (length ps)) (map PairLine ps ++ (EndLine ∷ [])) line rest spelled e)

-- both limits hold, and the state is the next one
within_ok : (d : Declared) (next q : LineState) → within d next ≡ Ok q → Small (InBody stage.Pieces 0 0 d) × (next ≡ q)
within_ok d next q h = grind (arith, nat_tests)

piece_sized : (v : Version) (d : Declared) (id : List ℕ) (t f : ℕ) (ts fs : List Corners) (c : CertContent) (line rest : List ℕ)
    → is_id id ≡ true → line ≡ spelling v (PieceLine id t f) → Left v stage.Pieces t f (grow d t f) ts fs c rest
    → May v (InBody stage.Pieces 0 0 d) (line ++ (10 ∷ rest))
piece_sized v d id t f ts fs c line rest version_named spelled m =
    subst (λ (n : ℕ). line ≡ spelling v (PieceLine id n f) → Left v stage.Pieces n f (grow d n f) ts fs c rest
    → May v (InBody stage.Pieces 0 0 d) (line ++ (10 ∷ rest))) m.triangle_count
    (subst (λ (k : ℕ). line ≡ spelling v (PieceLine id (length ts) k) → Left v stage.Pieces (length ts) k
    (grow d (length ts) k) ts fs c rest → May v (InBody stage.Pieces 0 0 d) (line ++ (10 ∷ rest))) m.flat_count
    (λ s l. piece_more v d id ts fs c line rest s version_named l)) spelled m

-- a block of flats, of as many as its line says
flats_sized : (v : Version) (b : Stage) (d : Declared) (w : Owner) (id : List ℕ) (f : ℕ) (ts fs : List Corners) (c : CertContent)
    (line rest : List ℕ) → LineFits v (flats_line w id f) → can_stand (Block b) (line_kind (flats_line w id f)) ≡ true → line ≡ spelling v (flats_line w id f)
    → Left v (stage_after w) 0 f (grow_flats d f) ts fs c rest → May v (InBody b 0 0 d) (line ++ (10 ∷ rest))
flats_sized v b d owner.Parcel id f ts fs c line rest fits can spelled m =
    let l = bare v stage.Parcels f (grow_flats d f) ts fs c rest m in
    let none = subst (λ (ps : List PieceBlock). Left v stage.Parcels 0 f (grow_flats d f) [] fs
    (record { pieces = ps; parcels = c.parcels; exact = c.exact; pairs = c.pairs }) rest) (l.content.no_pieces refl) l in
    subst (λ (k : ℕ). line ≡ spelling v (ParcelLine id k) → Left v stage.Parcels 0 k (grow_flats d k) [] fs
    (record { pieces = []; parcels = c.parcels; exact = c.exact; pairs = c.pairs }) rest
    → May v (InBody b 0 0 d) (line ++ (10 ∷ rest))) m.flat_count
    (λ s l. parcel_more v b d id fs c.parcels c.exact c.pairs line rest s fits.0 can l) spelled none
flats_sized v b d (owner.Exact side) id f ts fs c line rest fits can spelled m =
    let l = bare v stage.Exacts f (grow_flats d f) ts fs c rest m in
    let none = subst (λ (ps : List PieceBlock). Left v stage.Exacts 0 f (grow_flats d f) [] fs
    (record { pieces = ps; parcels = c.parcels; exact = c.exact; pairs = c.pairs }) rest) (l.content.no_pieces refl) l in
    let none2 = subst (λ (qs : List ParcelBlock). Left v stage.Exacts 0 f (grow_flats d f) [] fs
    (record { pieces = []; parcels = qs; exact = c.exact; pairs = c.pairs }) rest) (l.content.no_parcels refl) none in
    subst (λ (k : ℕ). line ≡ spelling v (ExactLine side id k) → Left v stage.Exacts 0 k (grow_flats d k) [] fs
    (record { pieces = []; parcels = []; exact = c.exact; pairs = c.pairs }) rest
    → May v (InBody b 0 0 d) (line ++ (10 ∷ rest))) m.flat_count
    (λ s l. exact_more v b d side id fs c.exact c.pairs line rest s fits.1 fits.0 l) spelled none2

-- a line that took a state on, and the text before it
abbrev Back : Version → LineState → List ℕ → LineState → Type 0
Back v p line q = Small q × ((rest : List ℕ) → May v q rest → May v p (line ++ (10 ∷ rest)))

block_back : (v : Version) (b : Stage) (d : Declared) (l : CertLine) (q : LineState) (line : List ℕ) → Small (InBody b 0 0 d) → ReadsAs v (Block b) line l → open_block d l ≡ Ok q
    → Back v (InBody b 0 0 d) line q
block_back v stage.Pieces d (PieceLine id t f) q line s r h =
    let w = within_ok (grow d t f) (InBody stage.Pieces t f (grow d t f)) q h in
    subst (λ (x : LineState). Back v (InBody stage.Pieces 0 0 d) line x) w.1 (w.0, λ rest m. piece_sized v d id t f m.0 m.1 m.2 line rest r.fits.0 r.text m.3)
block_back v stage.Parcels d (PieceLine id t f) q line s r h = let no = r.stands in absurd (cc no)
block_back v stage.Exacts d (PieceLine id t f) q line s r h = let no = r.stands in absurd (cc no)
block_back v b d (ParcelLine id f) q line s r h =
    let w = within_ok (grow_flats d f) (InBody stage.Parcels 0 f (grow_flats d f)) q h in
    subst (λ (x : LineState). Back v (InBody b 0 0 d) line x) w.1
    (w.0, λ rest m. flats_sized v b d owner.Parcel id f m.0 m.1 m.2 line rest r.fits r.stands r.text m.3)
block_back v b d (ExactLine side id f) q line s r h =
    let w = within_ok (grow_flats d f) (InBody stage.Exacts 0 f (grow_flats d f)) q h in
    subst (λ (x : LineState). Back v (InBody b 0 0 d) line x) w.1
    (w.0, λ rest m. flats_sized v b d (owner.Exact side) id f m.0 m.1 m.2 line rest r.fits r.stands r.text m.3)
block_back v b d (PairsLine n) q line s r h =
    let same : InPairs n ≡ q = cc h in
    subst (λ (x : LineState). Back v (InBody b 0 0 d) line x) same (
      tt,
      λ rest m. subst (λ (k : ℕ). line ≡ spelling v (PairsLine k) → k ≤ greatest_count → May v (InBody b 0 0 d) (line ++ (10 ∷ rest))) m.1
          (λ spelled few. pairs_more v b d m.0 line rest s spelled few m.2 m.3) r.text r.fits,
    )
block_back v b d (TriangleLine c) q line s r h = absurd (cc h)
block_back v b d (FlatLine c) q line s r h = absurd (cc h)
block_back v b d (PairLine p) q line s r h = absurd (cc h)
block_back v b d EndLine q line s r h = absurd (cc h)

pair_more : (v : Version) (n : ℕ) (line rest : List ℕ) (l : CertLine) → ReadsAs v (One kind.Pair) line l → May v (InPairs n) rest → May v (InPairs (suc n)) (line ++ (10 ∷ rest))
pair_more v n line rest (PairLine p) r m = (p ∷ m.0, ap suc m.1, (r.fits, m.2), line_more v (PairLine p) (map PairLine m.0 ++ (EndLine ∷ [])) line rest r.text m.3)
pair_more v n line rest _ r m = let no = r.stands in absurd (cc no)

end_more : (v : Version) (line rest : List ℕ) (l : CertLine) → ReadsAs v (One kind.End) line l → rest ≡ [] → May v (InPairs 0) (line ++ (10 ∷ rest))
unfolding text_of_lines
end_more v line rest EndLine r m = ([], refl, tt, line_more v EndLine [] line rest r.text m)
end_more v line rest _ r m = let no = r.stands in absurd (cc no)

back : (v : Version) (p q : LineState) (line : List ℕ) → Small p → line_step v p line ≡ Ok q → Back v p line q
unfolding line_step
back v (InBody b (suc t) f d) q line s h =
    let o = bind_ok (read_line v (One kind.Triangle) line) (λ _. Ok (InBody b t f d)) q h in
    let same : InBody b t f d ≡ q = cc o.2 in let takes = read_takes v (One kind.Triangle) line o.0 o.1 in
    rw (← same) (s, λ rest m. triangle_more v b t f d m.0 m.1 m.2 line rest o.0 takes m.3)
back v (InBody b zero (suc f) d) q line s h =
    let o = bind_ok (read_line v (One kind.Flat) line) (λ _. Ok (InBody b zero f d)) q h in
    let same : InBody b zero f d ≡ q = cc o.2 in let takes = read_takes v (One kind.Flat) line o.0 o.1 in
    rw (← same) (s, λ rest m. flat_more v b f d m.1 m.2 line rest o.0 takes (bare v b f d m.0 m.1 m.2 rest m.3))
back v (InBody b zero zero d) q line s h =
    let o = bind_ok (read_line v (Block b) line) (open_block d) q h in
    block_back v b d o.0 q line s (read_takes v (Block b) line o.0 o.1) o.2
back v (InPairs (suc n)) q line s h =
    let o = bind_ok (read_line v (One kind.Pair) line) (λ _. Ok (InPairs n)) q h in
    let same : InPairs n ≡ q = cc o.2 in rw (← same) (tt, λ rest m. pair_more v n line rest o.0 (read_takes v (One kind.Pair) line o.0 o.1) m)
back v (InPairs zero) q line s h =
    let o = bind_ok (read_line v (One kind.End) line) (λ _. Ok AtEnd) q h in
    let same : AtEnd ≡ q = cc o.2 in rw (← same) (tt, λ rest m. end_more v line rest o.0 (read_takes v (One kind.End) line o.0 o.1) m)
back v AtEnd q line s h = absurd (cc h)

-- ---- all lines back

last_back : (v : Version) (n m : ℕ) (p : LineState) (rest : List ℕ) → at_last n p rest ≡ Ok m → May v p rest
unfolding at_last
last_back v n m AtEnd [] h = refl
last_back v n m AtEnd (x ∷ xs) h = grind (arith, nat_tests)
last_back v n m _ rest h = absurd (cc h)

line_ok : (n : ℕ) (r : Result LineState CertCode) (q : LineState) → at_line n r ≡ Ok q → r ≡ Ok q
line_ok n (Ok x) q h = let same : x ≡ q = cc h in ap (λ (y : LineState). Ok y) same
line_ok n (Err e) q h = absurd (cc h)

read_back : (v : Version) (ls : List (List ℕ)) (n m : ℕ) (p : LineState) → Small p → lines_outcome v n p ls ≡ Ok m → May v p (join_with_byte 10 ls)
unfolding lines_outcome
read_back v [] n m p s h = last_back v n m p [] h
read_back v (l ∷ []) n m p s h = last_back v n m p l h
read_back v (l ∷ k ∷ ls) n m p s h =
    let o = bind_ok (at_line n (line_step v p l)) (λ q. lines_outcome v (n + 1) q (k ∷ ls)) m h in
    let b = back v p o.0 l s (line_ok n (line_step v p l) o.0 o.1) in
    b.1 (join_with_byte 10 (k ∷ ls)) (read_back v (k ∷ ls) (n + 1) m o.0 b.0 o.2)

-- ---- a text back

-- what comes after a first line without a fault
body_back : (v : Version) (text rest : List ℕ) (after : ℕ) → text ≡ first_line v ++ (10 ∷ rest) → May v first_state rest
    → (c : Cert) × IsCertText text c
unfolding content_text
body_back v text rest after e m =
    let content = m.2 in
    let own = m.3.content in
    let no_triangles = nil_from_length m.0 m.3.triangle_count in
    let no_flats = nil_from_length m.1 m.3.flat_count in
    let fits : Fits v content = record {
      pieces = own.pieces;
      parcels = own.parcels;
      exact = own.exact;
      pairs = own.pairs;
      triangles_few = omega (arith, own.triangles_few);
      flats_few = omega (arith, own.flats_few);
      pairs_few = own.pairs_few;
    } in
    let x = cert_of v content fits in
    let spelled : rest ≡ text_of_lines v (content_lines content) = rw (no_triangles, no_flats) at m.3.spelled in (
      x.0,
      (
        v,
        record {
          fits = subst (λ (c : CertContent). AllByRecursion (LineFits v) (content_lines c)) (sym x.1) (fits_of v content fits);
          is = e ∙ ap (λ (t : List ℕ). first_line v ++ (10 ∷ t)) spelled ∙ ap (λ (c : CertContent). content_text v c) (sym x.1);
        },
      ),
    )

named_back : (o : Option Version) (l : List ℕ) (ls : List (List ℕ)) (text : List ℕ) (after : ℕ) → version_named l ≡ o → text ≡ l ++ (10 ∷ join_with_byte 10 ls)
    → outcome_named o ls ≡ Ok after → (c : Cert) × IsCertText text c
named_back None l ls text after is e h = absurd (cc h)
named_back (Some v) l ls text after is e h =
    body_back v text (join_with_byte 10 ls) after (e ∙ ap (λ (x : List ℕ). x ++ (10 ∷ join_with_byte 10 ls)) (named_is l v is))
    (read_back v ls 2 after first_state (omega arith, omega arith) h)

first_back : (ls : List (List ℕ)) (text : List ℕ) (after : ℕ) → text ≡ join_with_byte 10 ls → outcome_of ls ≡ Ok after → (c : Cert) × IsCertText text c
unfolding outcome_of
first_back [] text after e h = absurd (cc h)
first_back (l ∷ []) text after e h = absurd (cc h)
first_back (l ∷ k ∷ ls) text after e h = named_back (version_named l) l (k ∷ ls) text after refl e h

-- a text without a fault is a certificate's
pub faultless_has_cert : (text : List ℕ) (after : ℕ) → verdict text ≡ Ok after → (c : Cert) × IsCertText text c
faultless_has_cert text after h = first_back (lines text) text after (sym (join_with_byte-slice_split 10 text)) h
