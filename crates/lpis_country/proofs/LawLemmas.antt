-- A text without a fault is that of a tree, and of one tree alone.
use Rattle.std.proofs.Common.{◌≡◌, ℕ, suc, ◌+◌, ◌<◌, Bool, true, false, cond, ◌&&◌, ◌||◌, List, [], ◌∷◌, ◌++◌, length, drop, Option, Some, None}
use Rattle.std.proofs.Common.{refl, sym, ap, subst, ◌∙◌, arith, nat_le, eqb, append_assoc}
use Rattle.std.proofs.lemmas.Bool.Decides.{nat_tests}
use Rattle.std.proofs.lemmas.List.{append-nil}
use Rattle.std.proofs.lemmas.List.Splits.{join_with_byte-slice_split}
use Rattle.std.proofs.lemmas.Slice.Eq.{bytes_eq-Decides}
use Rattle.std.specs.List.{AllByRecursion, join_with_byte, list_any}
use Rattle.std.specs.Str.{bytes_eq}
use Rattle.lpis_points.specs.declared.boxes.Box4.{Box4}
use Rattle.lpis_country.specs.Tiling.{frame}
use Rattle.lpis_country.specs.Limits.{most_regions}
use Rattle.lpis_country.specs.Tree.{Tree}
use Rattle.lpis_country.specs.CountryText.{TreeLine, x_line, y_line, region_line, tree_lines, tree_line_text, country_head, TreeLineFits, TreeFits, IsCountryText}
unfoldable use Rattle.lpis_country.specs.CountryText.{tree_lines_text, country_text}
use Rattle.lpis_country.specs.Faults.{Owing, owing_after, owing_after_line, or_line, plan_lines, plan_fault}
unfoldable use Rattle.lpis_country.specs.Faults.{tree_line, owing_with, plan_fault_from, plan_fault_of}
use Rattle.lpis_country.specs.private.Begun.{IsPlanBegun, owes}
use Rattle.lpis_country.proofs.TreeLemmas.{same_front}
use Rattle.lpis_country.proofs.LineLemmas.{line_again, line_takes, lines_from}
use Rattle.lpis_country.proofs.BegunLemmas.{begun_first, begun_x, begun_y, begun_region, begun_end}

-- ---- one line more

none_chosen : {A : Type 0} (b : Bool) (x y : A) → cond b None (Some x) ≡ Some y → (b ≡ false) × (x ≡ y)
none_chosen true x y h = absurd cc
none_chosen false x y h = (refl, cc h)

neither : (a b : Bool) → (a || b) ≡ false → (a ≡ false) × (b ≡ false)
neither true b h = absurd cc
neither false b h = (refl, h)

-- a number of regions that fails the test for the most is below the most
pub below_most_regions : (n : ℕ) → nat_le most_regions n ≡ false → n < most_regions
below_most_regions n h = grind (arith, nat_tests)

-- what is begun after a line
record GoesOn (said : List TreeLine) (line : List ℕ) (p : Owing) : Type 0 where
  l : TreeLine
  is : line ≡ tree_line_text l
  tiles : List Box4
  rooms : List Box4
  owing : p ≡ owes (length rooms) p.names
  begun : IsPlanBegun (said ++ l ∷ []) p.names tiles rooms

goes_on : (said : List TreeLine) (names : List (List ℕ)) (tiles : List Box4) (b : Box4) (bs : List Box4) (line : List ℕ) (l : TreeLine) (p : Owing) → IsPlanBegun said names tiles (b ∷ bs)
    → line ≡ tree_line_text l → TreeLineFits l → owing_after (owes (suc (length bs)) names) l ≡ Some p → GoesOn said line p
goes_on said names tiles b bs line (x_line c) p h is fits e =
    let same : owes (suc (suc (length bs))) names ≡ p = cc e in
    subst (λ (q : Owing). GoesOn said line q) same (record { l = x_line c; is = is; tiles = tiles; rooms = _; owing = refl; begun = begun_x said names tiles b bs c fits h })
goes_on said names tiles b bs line (y_line c) p h is fits e =
    let same : owes (suc (suc (length bs))) names ≡ p = cc e in
    subst (λ (q : Owing). GoesOn said line q) same (record { l = y_line c; is = is; tiles = tiles; rooms = _; owing = refl; begun = begun_y said names tiles b bs c fits h })
goes_on said names tiles b bs line (region_line name) p h is fits e =
    let c = none_chosen (list_any (bytes_eq name) names || nat_le most_regions (length names)) (owes (length bs) (names ++ name ∷ [])) p e in
    let n = neither (list_any (bytes_eq name) names) (nat_le most_regions (length names)) c.0 in
    subst (λ (q : Owing). GoesOn said line q) c.1
    (record { l = region_line name; is = is; tiles = _; rooms = bs; owing = refl; begun = begun_region said names tiles b bs name fits n.0 (below_most_regions (length names) n.1) h })

begun_with : (said : List TreeLine) (names : List (List ℕ)) (tiles rooms : List Box4) (line : List ℕ) (p : Owing) → IsPlanBegun said names tiles rooms
    → owing_with (owes (length rooms) names) line ≡ Some p → GoesOn said line p
unfolding owing_with
begun_with said names tiles [] line p h e = absurd cc
begun_with said names tiles (b ∷ bs) line p h e = by (tree_line line) refl e
  where
    by : (o : Option TreeLine) → tree_line line ≡ o → owing_after_line (owes (suc (length bs)) names) o ≡ Some p → GoesOn said line p
    by None is e = absurd cc
    by (Some l) is e = let t = line_takes line l is in goes_on said names tiles b bs line l p h t.0 t.1 e

-- ---- a text without a fault

record IsRead (said : List TreeLine) (ls : List (List ℕ)) : Type 0 where
  tree : Tree
  more : List TreeLine
  fits : TreeFits tree
  lines : tree_lines tree ≡ said ++ more
  text : join_with_byte 10 ls ≡ tree_lines_text more

last_read : (said : List TreeLine) (names : List (List ℕ)) (tiles rooms : List Box4) (rest : List ℕ) (n : ℕ) → IsPlanBegun said names tiles rooms
    → cond (eqb (length rooms) 0 && eqb (length rest) 0) None (Some n) ≡ None → IsRead said (rest ∷ [])
unfolding tree_lines_text
last_read said names tiles [] [] n h e =
    let b = begun_end said names tiles h in
    record { tree = b.0; more = []; fits = b.2.fits; lines = b.1 ∙ sym (append-nil said); text = refl }
last_read said names tiles [] (c ∷ cs) n h e = absurd (some n (length cs) e)
  where
    some : (n k : ℕ) → cond (eqb (suc k) 0) None (Some n) ≡ None → ⊥
    some n k e = grind (arith, nat_tests)
last_read said names tiles (b ∷ bs) rest n h e = absurd (some n (length bs) (eqb (length rest) 0) e)
  where
    some : (n k : ℕ) (t : Bool) → cond (eqb (suc k) 0 && t) None (Some n) ≡ None → ⊥
    some n k t e = grind (arith, nat_tests)

all_read : (ls : List (List ℕ)) (n : ℕ) (said : List TreeLine) (names : List (List ℕ)) (tiles rooms : List Box4) → IsPlanBegun said names tiles rooms
    → plan_fault_from n (owes (length rooms) names) ls ≡ None → IsRead said ls
unfolding plan_fault_from tree_lines_text
all_read [] n said names tiles rooms h e = absurd cc
all_read (rest ∷ []) n said names tiles rooms h e = last_read said names tiles rooms rest n h e
all_read (l ∷ m ∷ ls) n said names tiles rooms h e = by (owing_with (owes (length rooms) names) l) refl e (all_read (m ∷ ls) (n + 1))
  where
    by : (o : Option Owing) → owing_with (owes (length rooms) names) l ≡ o → or_line n o (λ p. plan_fault_from (n + 1) p (m ∷ ls)) ≡ None
        → ((begun : List TreeLine) (ns : List (List ℕ)) (ts bs : List Box4) → IsPlanBegun begun ns ts bs → plan_fault_from (n + 1) (owes (length bs) ns) (m ∷ ls) ≡ None → IsRead begun (m ∷ ls))
        → IsRead said (l ∷ m ∷ ls)
    by None is e again = absurd cc
    by (Some p) is e again =
        let g = begun_with said names tiles rooms l p h is in
        let r = again (said ++ g.l ∷ []) p.names g.tiles g.rooms g.begun (ap (λ (q : Owing). plan_fault_from (n + 1) q (m ∷ ls)) (sym g.owing) ∙ e) in
        record {
          tree = r.tree;
          more = g.l ∷ r.more;
          fits = r.fits;
          lines = r.lines ∙ append_assoc said (g.l ∷ []) r.more;
          text = ap (λ (w : List ℕ). w ++ (10 ∷ join_with_byte 10 (m ∷ ls))) g.is ∙ ap (λ (w : List ℕ). tree_line_text g.l ++ (10 ∷ w)) r.text;
        }

-- a text without a fault is that of a tree
pub without_fault : (text : List ℕ) → plan_fault text ≡ None → (t : Tree) × IsCountryText text t
unfolding plan_fault_of country_text
without_fault text e = by (plan_lines text) refl e
  where
    headed : (l m : List ℕ) (ls : List (List ℕ)) → plan_lines text ≡ l ∷ m ∷ ls → (b : Bool) → bytes_eq l country_head ≡ b
        → cond b (plan_fault_from 2 (owes 1 []) (m ∷ ls)) (Some 1) ≡ None → (t : Tree) × IsCountryText text t
    headed l m ls cut false first e = absurd cc
    headed l m ls cut true first e =
        let r = all_read (m ∷ ls) 2 [] [] [] (frame ∷ []) begun_first e in
        let joined : join_with_byte 10 (l ∷ m ∷ ls) ≡ text = ap (join_with_byte 10) (sym cut) ∙ join_with_byte-slice_split 10 text in
        let head : l ≡ country_head = (bytes_eq-Decides l country_head).0 first in
        let lines = r.lines in
        let more = r.text in
        (r.tree, record { fits = r.fits; is = sym joined ∙ rw (head, more, lines) refl })

    by : (ls : List (List ℕ)) → plan_lines text ≡ ls → plan_fault_of ls ≡ None → (t : Tree) × IsCountryText text t
    by [] cut e = absurd cc
    by (l ∷ []) cut e = absurd cc
    by (l ∷ m ∷ ls) cut e = headed l m ls cut (bytes_eq l country_head) refl e

-- ---- one tree a text

same_head : (a b : List ℕ) (x y : List (List ℕ)) → ◌≡◌ {A = List (List ℕ)} (a ∷ x) (b ∷ y) → (a ≡ b) × (x ≡ y)
same_head a b x y e = (cc e, cc e)

same_text : (a b : List ℕ) → plan_lines a ≡ plan_lines b → a ≡ b
same_text a b e = cc (join_with_byte-slice_split 10 a, join_with_byte-slice_split 10 b)

same_line : (l m : TreeLine) → TreeLineFits l → TreeLineFits m → tree_line_text l ≡ tree_line_text m → l ≡ m
same_line l m f g e = let same : Some l ≡ Some m = sym (line_again l f) ∙ ap tree_line e ∙ line_again m g in cc same

no_line : (l : TreeLine) (w : List ℕ) → [] ≡ tree_line_text l ++ w → ⊥
no_line (x_line c) w e = cc e
no_line (y_line c) w e = cc e
no_line (region_line name) w e = cc e

same_lines : (xs ys : List TreeLine) → AllByRecursion TreeLineFits xs → AllByRecursion TreeLineFits ys → tree_lines_text xs ≡ tree_lines_text ys → xs ≡ ys
unfolding tree_lines_text
same_lines [] [] f g e = refl
same_lines [] (y ∷ ys) f g e = absurd (no_line y (10 ∷ tree_lines_text ys) e)
same_lines (x ∷ xs) [] f g e = absurd (no_line x (10 ∷ tree_lines_text xs) (sym e))
same_lines (x ∷ xs) (y ∷ ys) f g e =
    let cut = sym (lines_from x (tree_lines_text xs) f.0) ∙ ap plan_lines e ∙ lines_from y (tree_lines_text ys) g.0 in
    let parts = same_head (tree_line_text x) (tree_line_text y) (plan_lines (tree_lines_text xs)) (plan_lines (tree_lines_text ys)) cut in
    let first = same_line x y f.0 g.0 parts.0 in
    let rest = same_lines xs ys f.1 g.1 (same_text (tree_lines_text xs) (tree_lines_text ys) parts.1) in
    rw (first, rest) refl

-- a text is that of one tree at most
pub one_tree : (text : List ℕ) (t u : Tree) → IsCountryText text t → IsCountryText text u → t ≡ u
unfolding country_text
one_tree text t u h k =
    let rest : tree_lines_text (tree_lines t) ≡ tree_lines_text (tree_lines u) = ap (drop 15) (sym h.is ∙ k.is) in
    let lines = same_lines (tree_lines t) (tree_lines u) h.fits.lines k.fits.lines rest in
    (same_front t u [] [] (append-nil (tree_lines t) ∙ lines ∙ sym (append-nil (tree_lines u)))).0
