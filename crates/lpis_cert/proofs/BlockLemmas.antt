-- The lines of blocks.
use Rattle.std.proofs.Common.{◌≡◌, ℕ, suc, ◌+◌, ◌-◌, ◌<◌, Bool, true, false, List, [], ◌∷◌, ◌++◌, length, map, Some, None, Ok, refl, ap, ◌∙◌, arith}
use Rattle.lpis_cert.proofs.Common.{AllByRecursion, Triangle, Stage, CertFault, Kind, One, Version, Corners, Separator, FlatLine, EndLine, spelling, CornersFit}
use Rattle.lpis_cert.proofs.Common.{SeparatorFits, values}
use Rattle.lpis_cert.proofs.Common.{line_step, InPairs, Declared, LineFits, Placed, LineFault, ReadsLines, FaultFrom, corner_line, corner_numbers, triangle_corners}
use Rattle.lpis_cert.proofs.Common.{separator_of}
use Rattle.std.proofs.lemmas.List.{map_push}
use Rattle.lpis_cert.specs.declared.part.PairLine.{PairLine}
use Rattle.lpis_cert.specs.CertText.{PairLine as separator_line}
use Rattle.lpis_cert.specs.Reading.{corners, separator}
use Rattle.lpis_cert.specs.private.Taken.{FailsWith, corner_kind, wanting}
use Rattle.lpis_cert.proofs.LineLemmas.{read_again}
use Rattle.lpis_cert.proofs.StepLemmas.{only_expected_kind, placed_line_taken, placed_number_fault, Wants, fault_here, Goes, fault_after, follows_both}
use Rattle.lpis_cert.specs.declared.fault.CertCode.TheVariants as code
use Rattle.lpis_cert.specs.declared.kind.Kind.TheVariants as kind

corner_values : (v : Version) (flat : Bool) (ws : List (List ℕ)) (c : Corners) → corners v ws ≡ Some c
    → values v (corner_kind flat) ws ≡ Some (corner_line flat c)
unfolding values
corner_values v true ws c h = rw h refl
corner_values v false ws c h = rw h refl

no_corner_values : (v : Version) (flat : Bool) (ws : List (List ℕ)) → corners v ws ≡ None → values v (corner_kind flat) ws ≡ None
unfolding values
no_corner_values v true ws h = rw h refl
no_corner_values v false ws h = rw h refl

-- the corners of lines that have a text
pub lines_fit : (v : Version) (flat : Bool) (cs : List Corners) → AllByRecursion (LineFits v) (map (corner_line flat) cs) → AllByRecursion (CornersFit v) cs
lines_fit v flat [] h = tt
lines_fit v true (c ∷ cs) h = (h.0, lines_fit v true cs h.1)
lines_fit v false (c ∷ cs) h = (h.0, lines_fit v false cs h.1)

-- a line placed as a triangle or a flat, whose words are corners, reads as the line of these corners
pub corner_taken : {text : List ℕ} {n : ℕ} {k : Kind} {ws : List (List ℕ)} {rest : List ℕ} {m : ℕ} (v : Version) (flat : Bool)
    (c : Corners) → Placed v (One (corner_kind flat)) text n k ws rest m → corners v ws ≡ Some c
    → ReadsLines v text n (corner_line flat c ∷ []) rest m
corner_taken {ws = ws} v flat c p h =
    let is = only_expected_kind {k = corner_kind flat} p in
    (placed_line_taken v (corner_line flat c) p (rw is (corner_values v flat ws c h))).0

-- a line placed as a triangle or a flat, whose words are no corners, fails with the code of numbers
pub corner_untaken : {text : List ℕ} {n : ℕ} {k : Kind} {ws : List (List ℕ)} {rest : List ℕ} {m : ℕ} (v : Version) (flat : Bool)
    → Placed v (One (corner_kind flat)) text n k ws rest m → corners v ws ≡ None
    → FailsWith v (One (corner_kind flat)) text code.Number
corner_untaken {ws = ws} v flat p h =
    let is = only_expected_kind {k = corner_kind flat} p in
    placed_number_fault v p (rw is (no_corner_values v flat ws h))

-- a line placed as a pair line, whose words are a separator, reads as the line of that separator
pub pair_taken : {text : List ℕ} {n : ℕ} {k : Kind} {ws : List (List ℕ)} {rest : List ℕ} {m : ℕ} (v : Version) (c : Separator)
    → Placed v (One kind.Pair) text n k ws rest m → separator ws ≡ Some c → ReadsLines v text n (separator_line c ∷ []) rest m
unfolding values
pair_taken v c p h =
    let is = only_expected_kind p in
    (placed_line_taken v (separator_line c) p (rw (is, h) refl)).0

-- a line placed as a pair line, whose words are no separator, fails with the code of numbers
pub pair_untaken : {text : List ℕ} {n : ℕ} {k : Kind} {ws : List (List ℕ)} {rest : List ℕ} {m : ℕ} (v : Version)
    → Placed v (One kind.Pair) text n k ws rest m → separator ws ≡ None → FailsWith v (One kind.Pair) text code.Number
unfolding values
pair_untaken v p h =
    let is = only_expected_kind p in
    placed_number_fault v p (rw (is, h) refl)

-- a line placed as the end, with no word after its first, reads as the end line
pub end_taken : {text : List ℕ} {n : ℕ} {k : Kind} {ws : List (List ℕ)} {rest : List ℕ} {m : ℕ} (v : Version) → Placed v (One kind.End) text n k ws rest m
    → ws ≡ [] → ReadsLines v text n (EndLine ∷ []) rest m
unfolding values
end_taken v p h =
    let is = only_expected_kind p in
    (placed_line_taken v EndLine p (rw (is, h) refl)).0

-- a line placed as the end, with a word after its first, fails with the code of numbers
pub end_untaken : {text : List ℕ} {n : ℕ} {k : Kind} {ws : List (List ℕ)} {rest : List ℕ} {m : ℕ} {w : List ℕ}
    {vs : List (List ℕ)} (v : Version) → Placed v (One kind.End) text n k ws rest m → ws ≡ w ∷ vs → FailsWith v (One kind.End) text
    code.Number
unfolding values
end_untaken v p h =
    let is = only_expected_kind p in
    placed_number_fault v p (rw (is, h) refl)

-- ---- many lines of one kind

corner_step : (v : Version) (flat : Bool) (n : ℕ) (b : Stage) (f : ℕ) (d : Declared) (c : Corners) → CornersFit v c
    → LineFits v (corner_line flat c)
    × (line_step v (wanting flat (suc n) b f d) (spelling v (corner_line flat c)) ≡ Ok (wanting flat n b f d))
unfolding line_step
corner_step v true n b f d c fits = (fits, rw (read_again v (One kind.Flat) (FlatLine c) fits refl) refl)
corner_step v false n b f d c fits = grind (arith, read_again)

-- after triangle lines, or flat lines, whose corners have a text, as many fewer are wanted
pub corners_go : (v : Version) (flat : Bool) (cs : List Corners) (n k : ℕ) (b : Stage) (f : ℕ) (d : Declared)
    → AllByRecursion (CornersFit v) cs → n ≡ length cs + k → Goes v (wanting flat n b f d) (map (corner_line flat) cs)
    (wanting flat k b f d)
corners_go v flat [] n k b f d fits e = grind arith
corners_go v flat (c ∷ cs) n k b f d fits e =
    let is : n ≡ suc (length cs + k) = omega arith in
    let s = corner_step v flat (length cs + k) b f d c fits.0 in
    (s.0, (wanting flat (length cs + k) b f d, rw is s.1, corners_go v flat cs (length cs + k) k b f d fits.1 refl))

corner_wants : (flat : Bool) (n : ℕ) (b : Stage) (f : ℕ) (d : Declared) → Wants (wanting flat (suc n) b f d) (One (corner_kind flat))
corner_wants true n b f d = refl
corner_wants false n b f d = refl

-- after fewer triangle lines or flat lines than are wanted, a fault of the next is the first from their start on
pub corner_fault : {v : Version} {text : List ℕ} {n : ℕ} {rest : List ℕ} {m : ℕ} (x : CertFault) (flat : Bool) (cs : List Corners) (count i : ℕ)
    → i < count → length cs ≡ i
    → ReadsLines v text n (map (corner_line flat) cs) rest m → LineFault v x m (One (corner_kind flat)) rest
    → (b : Stage) (f : ℕ) (d : Declared) → FaultFrom v x n (wanting flat count b f d) text
corner_fault {v} {rest = rest} {m} x flat cs count i lt len follows fault b f d =
    let left = suc (count - (i + 1)) in
    fault_after x (wanting flat count b f d) (wanting flat left b f d) follows
    (corners_go v flat cs count left b f d (lines_fit v flat cs follows.fits) (omega arith))
    (fault_here v x m (wanting flat left b f d) (One (corner_kind flat)) rest (corner_wants flat (count - (i + 1)) b f d) fault)

-- lines of triangles or of flats, and then the line of one more, read as the lines of the longer list
pub corner_more : {v : Version} {text : List ℕ} {n : ℕ} {rest : List ℕ} {m : ℕ} {after : List ℕ} {k : ℕ} (flat : Bool) (ts : List Triangle) (t : Triangle)
    → ReadsLines v text n (map (corner_line flat) (triangle_corners ts)) rest m → ReadsLines v rest m (corner_line flat (corner_numbers t) ∷ []) after k
    → ReadsLines v text n (map (corner_line flat) (triangle_corners (ts ++ t ∷ []))) after k
corner_more flat ts t f g =
    let e : map (corner_line flat) (triangle_corners (ts ++ t ∷ [])) ≡ map (corner_line flat) (triangle_corners ts) ++ (corner_line flat (corner_numbers t) ∷ []) =
    ap (map (corner_line flat)) (map_push corner_numbers ts t) ∙ map_push (corner_line flat) (triangle_corners ts) (corner_numbers t) in
    rw e (follows_both f g)

-- the numbers of all pair lines of a certificate are within the limits of a text
pub separators_fit : (ps : List PairLine) → AllByRecursion SeparatorFits (map separator_of ps)
separators_fit [] = tt
separators_fit (p ∷ ps) = grind (arith, separators_fit ps)

-- pair lines, and then the line of one more, read as the lines of the longer list
pub pair_more : {v : Version} {text : List ℕ} {n : ℕ} {rest : List ℕ} {m : ℕ} {after : List ℕ} {k : ℕ} (ts : List PairLine) (t : PairLine)
    → ReadsLines v text n (map separator_line (map separator_of ts)) rest m → ReadsLines v rest m (separator_line (separator_of t) ∷ []) after k
    → ReadsLines v text n (map separator_line (map separator_of (ts ++ t ∷ []))) after k
pair_more ts t f g =
    let e : map separator_line (map separator_of (ts ++ t ∷ [])) ≡ map separator_line (map separator_of ts) ++ (separator_line (separator_of t) ∷ []) =
    ap (map separator_line) (map_push separator_of ts t) ∙ map_push separator_line (map separator_of ts) (separator_of t) in
    rw e (follows_both f g)

-- after pair lines within the limits, as many fewer are wanted
pub pairs_go : (v : Version) (ps : List Separator) (n k : ℕ) → AllByRecursion SeparatorFits ps → n ≡ length ps + k
    → Goes v (InPairs n) (map separator_line ps) (InPairs k)
unfolding line_step
pairs_go v [] n k fits e = let is : n ≡ k = omega arith in ap InPairs is
pairs_go v (p ∷ ps) n k fits e =
    let is : n ≡ suc (length ps + k) = omega arith in
    (fits.0, (InPairs (length ps + k), rw (is, read_again v (One kind.Pair) (separator_line p) fits.0 refl) refl, pairs_go v ps (length ps + k) k fits.1 refl))

-- after fewer pair lines than are wanted, a fault of the next is the first from their start on
pub pair_fault : {v : Version} {text : List ℕ} {n : ℕ} {rest : List ℕ} {m : ℕ} (x : CertFault) (ps : List Separator) (count i : ℕ) → AllByRecursion SeparatorFits ps
    → i < count → length ps ≡ i
    → ReadsLines v text n (map separator_line ps) rest m → LineFault v x m (One kind.Pair) rest → FaultFrom v x n (InPairs count) text
pair_fault {v} {rest = rest} {m} x ps count i fits lt len follows fault =
    let left = suc (count - (i + 1)) in
    fault_after x (InPairs count) (InPairs left) follows (pairs_go v ps count left fits (omega arith))
    (fault_here v x m (InPairs left) (One kind.Pair) rest refl fault)
