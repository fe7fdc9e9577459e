-- Texts, line by line.
use Rattle.std.proofs.Common.{◌≡◌, ℕ, suc, ◌+◌, ◌<◌, ◌≤◌, Bool, true, false, cond, List, [], ◌∷◌, ◌++◌, length, Option, Some, None}
use Rattle.std.proofs.Common.{refl, sym, ap, subst, ◌∙◌, arith, nat_le, append_assoc, length-append}
use Rattle.std.proofs.lemmas.Bool.Decides.{nat_tests}
use Rattle.std.proofs.lemmas.List.{append-nil}
use Rattle.std.specs.Cmp.Lexicographic.{nat_list_eq_equiv}
use Rattle.std.specs.List.{AllByRecursion, IsDistinct, list_any, onto_first, slice_split}
use Rattle.std.specs.Str.{bytes_eq}
use Rattle.lpis_country.specs.Limits.{most_regions}
use Rattle.lpis_country.specs.Tree.{Tree, folder, by_x, by_y, folders}
use Rattle.lpis_country.specs.CountryText.{TreeLine, x_line, y_line, region_line, tree_lines, tree_line_text, country_head, TreeLineFits, IsCountryText}
unfoldable use Rattle.lpis_country.specs.CountryText.{tree_lines_text, country_text}
use Rattle.lpis_country.specs.Faults.{Owing, owing_first, owing_after, or_line, is_line_feed, plan_lines, plan_fault}
unfoldable use Rattle.lpis_country.specs.Faults.{tree_line, owing_with, plan_fault_from, plan_fault_of}
use Rattle.lpis_country.specs.private.Begun.{owes}
use Rattle.lpis_country.proofs.LineLemmas.{line_again, lines_from}

-- ---- one line

-- a text has a line at least, if only what comes after its last line feed
pub split_some : (p : ℕ → Bool) (bs : List ℕ) → (v : List ℕ) × (vs : List (List ℕ)) × (slice_split p bs ≡ v ∷ vs)
split_some p [] = ([], [], refl)
split_some p (b ∷ bs) = by_test (p b) b (slice_split p bs) (split_some p bs)
  where
    by_test : (t : Bool) (b : ℕ) (ws : List (List ℕ)) → ((v : List ℕ) × (vs : List (List ℕ)) × (ws ≡ v ∷ vs))
        → (v : List ℕ) × (vs : List (List ℕ)) × (cond t ([] ∷ ws) (onto_first b ws) ≡ v ∷ vs)
    by_test true b ws h = ([], ws, refl)
    by_test false b ws h = (b ∷ h.0, h.1, ap (onto_first b) h.2)

-- the first line can't stand, or the first fault is one of what comes after it
pub fault_step : (n : ℕ) (o : Owing) (text line rest : List ℕ) → plan_lines text ≡ line ∷ plan_lines rest
    → plan_fault_from n o (plan_lines text) ≡ or_line n (owing_with o line) (λ p. plan_fault_from (n + 1) p (plan_lines rest))
unfolding plan_fault_from
fault_step n o text line rest e = let s = split_some is_line_feed rest in let more = s.2 in rw (e, more) refl

-- the same after the head
pub head_step : (rest : List ℕ) → plan_fault (country_head ++ (10 ∷ rest)) ≡ plan_fault_from 2 owing_first (plan_lines rest)
unfolding plan_fault_of
head_step rest = let s = split_some is_line_feed rest in let more = s.2 in rw more refl

line_stands : (k : ℕ) (names : List (List ℕ)) (l : TreeLine) → TreeLineFits l → owing_with (owes (suc k) names) (tree_line_text l) ≡ owing_after (owes (suc k) names) l
unfolding owing_with
line_stands k names l fits = rw (line_again l fits) refl

one_line : (n k : ℕ) (names : List (List ℕ)) (p : Owing) (l : TreeLine) (rest : List ℕ) → TreeLineFits l → owing_after (owes (suc k) names) l ≡ Some p
    → plan_fault_from n (owes (suc k) names) (plan_lines (tree_line_text l ++ (10 ∷ rest))) ≡ plan_fault_from (n + 1) p (plan_lines rest)
one_line n k names p l rest fits e =
    fault_step n (owes (suc k) names) (tree_line_text l ++ (10 ∷ rest)) (tree_line_text l) rest (lines_from l rest fits)
    ∙ ap (λ (o : Option Owing). or_line n o (λ q. plan_fault_from (n + 1) q (plan_lines rest))) (line_stands k names l fits ∙ e)

-- ---- the text of a tree has no fault

-- the text of lines and further lines is the text of the first, and then that of the others
pub text-append : (ls ms : List TreeLine) → tree_lines_text (ls ++ ms) ≡ tree_lines_text ls ++ tree_lines_text ms
unfolding tree_lines_text
text-append [] ms = refl
text-append (l ∷ ls) ms = ap (λ (w : List ℕ). tree_line_text l ++ (10 ∷ w)) (text-append ls ms) ∙ sym (append_assoc (tree_line_text l) (10 ∷ tree_lines_text ls) (tree_lines_text ms))

first_of : {A : Type 0} (P : A → Type 0) (xs ys : List A) → AllByRecursion P (xs ++ ys) → AllByRecursion P xs × AllByRecursion P ys
first_of P [] ys h = (tt, h)
first_of P (x ∷ xs) ys h = let r = first_of P xs ys h.1 in ((h.0, r.0), r.1)

distinct_front : (xs ys : List (List ℕ)) → IsDistinct bytes_eq (xs ++ ys) → IsDistinct bytes_eq xs
unfolding IsDistinct
distinct_front [] ys h = tt
distinct_front (x ∷ xs) ys h = ((first_of (λ (y : List ℕ). bytes_eq x y ≡ false) xs ys h.0).0, distinct_front xs ys h.1)

new_name : (xs : List (List ℕ)) (name : List ℕ) (ys : List (List ℕ)) → IsDistinct bytes_eq (xs ++ name ∷ ys) → list_any (bytes_eq name) xs ≡ false
unfolding IsDistinct
new_name [] name ys h = refl
new_name (x ∷ xs) name ys h =
    let other = (first_of (λ (y : List ℕ). bytes_eq x y ≡ false) xs (name ∷ ys) h.0).1.0 in
    let turned : bytes_eq name x ≡ false = nat_list_eq_equiv.symm name x ∙ other in
    rw turned (new_name xs name ys h.1)

few_front : (xs ys : List (List ℕ)) → length (xs ++ ys) ≤ most_regions → length xs ≤ most_regions
few_front xs ys h = omega (arith, length-append xs ys)

region_stands : (k : ℕ) (names : List (List ℕ)) (name : List ℕ) → IsDistinct bytes_eq (names ++ name ∷ []) → length (names ++ name ∷ []) ≤ most_regions
    → owing_after (owes (suc k) names) (region_line name) ≡ Some (owes k (names ++ name ∷ []))
region_stands k names name distinct few = rw (new_name names name [] distinct, room (length names) (omega (arith, length-append names (name ∷ [])))) refl
  where
    room : (n : ℕ) → n < most_regions → nat_le most_regions n ≡ false
    room n h = grind (arith, nat_tests)

abbrev Passes : List TreeLine → ℕ → ℕ → ℕ → List (List ℕ) → List (List ℕ) → List ℕ → Type 0
Passes ls n j k names more rest =
    (m : ℕ) × (plan_fault_from n (owes j names) (plan_lines (tree_lines_text ls ++ rest)) ≡ plan_fault_from m (owes k more) (plan_lines rest))

-- a cut, and then two parts
cut_passes : (l : TreeLine) (ls ms : List TreeLine) (n k : ℕ) (names some more : List (List ℕ)) (rest : List ℕ) → TreeLineFits l
    → owing_after (owes (suc k) names) l ≡ Some (owes (suc (suc k)) names) → Passes ls (n + 1) (suc (suc k)) (suc k) names some (tree_lines_text ms ++ rest)
    → ((m : ℕ) → Passes ms m (suc k) k some more rest) → Passes (l ∷ (ls ++ ms)) n (suc k) k names more rest
unfolding tree_lines_text
cut_passes l ls ms n k names some more rest fits stands first second =
    let last = second first.0 in
    let parts = append_assoc (tree_line_text l) (10 ∷ tree_lines_text (ls ++ ms)) rest ∙ ap (λ (w : List ℕ). tree_line_text l ++ (10 ∷ w))
    (ap (λ (w : List ℕ). w ++ rest) (text-append ls ms) ∙ append_assoc (tree_lines_text ls) (tree_lines_text ms) rest) in (
      last.0,
      ap (λ (w : List ℕ). plan_fault_from n (owes (suc k) names) (plan_lines w)) parts
          ∙ one_line n k names (owes (suc (suc k)) names) l (tree_lines_text ls ++ (tree_lines_text ms ++ rest)) fits stands ∙ first.1 ∙ last.1,
    )

-- the names of a tree that is still to come are new, and not too many
record AreNew (names more : List (List ℕ)) : Type 0 where
  distinct : IsDistinct bytes_eq (names ++ more)
  few : length (names ++ more) ≤ most_regions

regroup : (names xs ys : List (List ℕ)) → AreNew names (xs ++ ys) → AreNew (names ++ xs) ys
regroup names xs ys new =
    let same = sym (append_assoc names xs ys) in
    record { distinct = subst (λ (ns : List (List ℕ)). IsDistinct bytes_eq ns) same new.distinct; few = subst (λ (ns : List (List ℕ)). length ns ≤ most_regions) same new.few }

first_new : (names xs ys : List (List ℕ)) → AreNew names (xs ++ ys) → AreNew names xs
first_new names xs ys new =
    let r = regroup names xs ys new in
    record { distinct = distinct_front (names ++ xs) ys r.distinct; few = few_front (names ++ xs) ys r.few }

abbrev TreePasses : Tree → Type 0
TreePasses t = (n k : ℕ) (names : List (List ℕ)) (rest : List ℕ) → AllByRecursion TreeLineFits (tree_lines t) → AreNew names (folders t)
    → Passes (tree_lines t) n (suc k) k names (names ++ folders t) rest

-- a cut, and then both parts
both_pass : (l : TreeLine) (s t : Tree) (n k : ℕ) (names : List (List ℕ)) (rest : List ℕ) → TreeLineFits l → owing_after (owes (suc k) names) l ≡ Some (owes (suc (suc k)) names)
    → AllByRecursion TreeLineFits (tree_lines s ++ tree_lines t) → AreNew names (folders s ++ folders t) → TreePasses s → TreePasses t
    → Passes (l ∷ (tree_lines s ++ tree_lines t)) n (suc k) k names (names ++ (folders s ++ folders t)) rest
both_pass l s t n k names rest fit stands fits new first second =
    let f = first_of TreeLineFits (tree_lines s) (tree_lines t) fits in
    subst (λ (ns : List (List ℕ)). Passes (l ∷ (tree_lines s ++ tree_lines t)) n (suc k) k names ns rest) (append_assoc names (folders s) (folders t))
    (cut_passes l (tree_lines s) (tree_lines t) n k names (names ++ folders s) ((names ++ folders s) ++ folders t) rest fit stands
    (first (n + 1) (suc k) names (tree_lines_text (tree_lines t) ++ rest) f.0 (first_new names (folders s) (folders t) new))
    (λ m. second m k (names ++ folders s) rest f.1 (regroup names (folders s) (folders t) new)))

passes : (t : Tree) → TreePasses t
unfolding tree_lines_text
passes (folder name) = λ n k names rest fits new. (
  n + 1,
  ap (λ (w : List ℕ). plan_fault_from n (owes (suc k) names) (plan_lines w)) (append_assoc (tree_line_text (region_line name)) (10 ∷ []) rest)
      ∙ one_line n k names (owes k (names ++ name ∷ [])) (region_line name) rest fits.0 (region_stands k names name new.distinct new.few),
)
passes (by_x c s t) = λ n k names rest fits new. both_pass (x_line c) s t n k names rest fits.0 refl fits.1 new (passes s) (passes t)
passes (by_y c s t) = λ n k names rest fits new. both_pass (y_line c) s t n k names rest fits.0 refl fits.1 new (passes s) (passes t)

ends_well : (m : ℕ) (names : List (List ℕ)) → plan_fault_from m (owes 0 names) (plan_lines []) ≡ None
unfolding plan_fault_from
ends_well m names = refl

-- the text of a tree has no fault
pub no_fault : (text : List ℕ) (t : Tree) → IsCountryText text t → plan_fault text ≡ None
unfolding country_text
no_fault text t h =
    let p = passes t 2 0 [] [] h.fits.lines (record { distinct = h.fits.distinct; few = h.fits.few }) in
    ap plan_fault h.is ∙ head_step (tree_lines_text (tree_lines t))
    ∙ ap (λ (w : List ℕ). plan_fault_from 2 owing_first (plan_lines w)) (sym (append-nil (tree_lines_text (tree_lines t)))) ∙ p.1 ∙ ends_well p.0 (folders t)
