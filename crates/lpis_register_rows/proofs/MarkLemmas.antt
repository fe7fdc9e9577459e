-- Lines and marks of a history, and lines that get their marks.
use Rattle.std.proofs.Common.{◌≡◌, ◌∙◌, ◌<◌, ◌≤◌, ◌+◌, ◌⊎◌, refl, sym, ap, ap₂, subst, arith, ℕ, zero, suc, ℤ, pos, List, [], ◌∷◌, ◌++◌, Bool, true, false, cond, length, map, take, drop, get_or, set}
use Rattle.std.proofs.Common.{Option, IsPermutation, ◌&&◌}
use Rattle.std.proofs.Common.{All, IsSorted, IsSortedByKey, int_eq, is_lt}
use Rattle.lpis_register_rows.proofs.Common.{AllByRecursion, recursion_from_All, map-append, Entry, Row, IsLawful, KnownLine, Line, lines_from, successor_text, IsKeptHistory, lineage_lines, HasText}
use Rattle.lpis_register_rows.proofs.Common.{line_in, known_from, known_of}
use Rattle.lpis_register_rows.proofs.Common.{IsPermutation-sym, IsPermutation-trans, Mark, marks_of, marks_in, walked}
use Rattle.std.specs.Cmp.{IsTotalOrder, signed_Decides}
use Rattle.std.proofs.lemmas.Bool.{and_parts}
use Rattle.std.proofs.lemmas.Cmp.{int_cmp_total, on_total, then_total}
use Rattle.std.proofs.lemmas.Grind.{common_steps}
use Rattle.std.proofs.lemmas.List.{append-nil, append_assoc, drop-set-lt, drop_all, length-drop, map-id, take-append-le, take_more_set}
use Rattle.lpis_register_rows.proofs.KnownLemmas.{drop-at, take-whole}
use Rattle.std.proofs.lemmas.List.Sorted.{IsPermutation-refl, ranks_by, sorted_far}
use Rattle.lpis_register_rows.proofs.AscendingLemmas.{Ascends, all-append, number_below}
use Rattle.lpis_register_rows.proofs.KnownRowLemmas.{have-texts, same-text}
use Rattle.lpis_register_rows.proofs.SortingLemmas.{Less_by, Rises, ascends-map, lines-less, rises-far, sorted-lines, sorted-same}
use Rattle.lpis_register_rows.specs.private.Marking.{mark_cmp, line_mark, marked, marks_line, is_next, later, unused}
use Rattle.lpis_register_rows.specs.Content.{marks_from}
use Rattle.lpis_register_rows.specs.private.Known.{line_cmp}
use Rattle.lpis_register_rows.proofs.YearLemmas.{line_below, line-alone, lines-ascend, years-ascend}

-- ---- the lines and the marks of a history, of its rows

from-lines : (y : ℤ) (n : ℕ) (rs : List Row) → map line_in (known_from y n rs) ≡ lines_from y n rs
from-lines y n [] = refl
from-lines y n (r ∷ rs) = ap (λ (l : List Line). (record { year = y; position = pos n; old = r.old; new = successor_text r.new }) ∷ l) (from-lines y (n + 1) rs)

-- a history's lines, as rows of the table, are its rows of lineage with their years and positions
pub lines-in : (h : List Entry) → map line_in (known_of h) ≡ lineage_lines h
lines-in [] = refl
lines-in (e ∷ h) = map-append line_in (known_from (pos e.year) 0 e.rows) (known_of h) ∙ ap₂ (λ (a b : List Line). a ++ b) (from-lines (pos e.year) 0 e.rows) (lines-in h)

marks-append : (ks ls : List KnownLine) → marks_in (ks ++ ls) ≡ marks_in ks ++ marks_in ls
marks-append [] ls = refl
marks-append (k ∷ ks) ls = by k.row.exact (marks-append ks ls) where
  by : (b : Bool) → marks_in (ks ++ ls) ≡ marks_in ks ++ marks_in ls → cond b (line_mark k ∷ marks_in (ks ++ ls)) (marks_in (ks ++ ls)) ≡ cond b (line_mark k
      ∷ marks_in ks) (marks_in ks) ++ marks_in ls
  by true e = ap (λ (l : List Mark). line_mark k ∷ l) e
  by false e = e

from-marks : (y : ℤ) (n : ℕ) (rs : List Row) → marks_in (known_from y n rs) ≡ marks_from y n rs
from-marks y n [] = refl
from-marks y n (r ∷ rs) = by r.exact (from-marks y (n + 1) rs) where
  by : (b : Bool) → marks_in (known_from y (n + 1) rs) ≡ marks_from y (n + 1) rs
      → cond b ((record { year = y; position = pos n }) ∷ marks_in (known_from y (n + 1) rs)) (marks_in (known_from y (n + 1) rs))
      ≡ cond b ((record { year = y; position = pos n }) ∷ marks_from y (n + 1) rs) (marks_from y (n + 1) rs)
  by true e = ap (λ (l : List Mark). (record { year = y; position = pos n }) ∷ l) e
  by false e = e

-- the marks of a history's lines are the history's marks
pub marks-in : (h : List Entry) → marks_in (known_of h) ≡ marks_of h
marks-in [] = refl
marks-in (e ∷ h) = marks-append (known_from (pos e.year) 0 e.rows) (known_of h) ∙ ap₂ (λ (a b : List Mark). a ++ b) (from-marks (pos e.year) 0 e.rows) (marks-in h)

-- ---- their order

abbrev as_line : Mark → Line
as_line m = record { year = m.year; position = m.position; old = []; new = [] }

-- marks by year, and in it by position
abbrev pub mark_below : Mark → Mark → Type 0
mark_below a b = number_below a.year b.year ⊎ ((a.year ≡ b.year) × number_below a.position b.position)

-- no two marks are each below the other
pub mark-alone : (a b : Mark) → mark_below a b → mark_below b a → ⊥
mark-alone a b r s = line-alone (as_line a) (as_line b) r s

-- lines with their rows, by year, and in it by position
abbrev pub known_below : KnownLine → KnownLine → Type 0
known_below k l = mark_below (line_mark k) (line_mark l)

-- what all elements of a mapped list have, the image of each element of the list has
pub all-unmap : {A B : Type 0} (P : B → Type 0) (f : A → B) (xs : List A) → AllByRecursion P (map f xs) → AllByRecursion (λ x. P (f x)) xs
all-unmap P f [] a = tt
all-unmap P f (x ∷ xs) a = (a.0, all-unmap P f xs a.1)

ascends-unmap : {A B : Type 0} (R : B → B → Type 0) (f : A → B) (xs : List A) → Ascends R (map f xs) → Ascends (λ x y. R (f x) (f y)) xs
ascends-unmap R f [] a = tt
ascends-unmap R f (x ∷ xs) a = (all-unmap (R (f x)) f xs a.0, ascends-unmap R f xs a.1)

known-ascend : (h : List Entry) → IsLawful h → Ascends known_below (known_of h)
known-ascend h law = ascends-unmap line_below line_in (known_of h) (subst (Ascends line_below) (sym (lines-in h)) (lines-ascend h (years-ascend h law)))

marks-above : (P : Mark → Type 0) (ks : List KnownLine) → AllByRecursion (λ k. P (line_mark k)) ks → AllByRecursion P (marks_in ks)
marks-above P [] a = tt
marks-above P (k ∷ ks) a = by k.row.exact (marks-above P ks a.1) where
  by : (b : Bool) → AllByRecursion P (marks_in ks) → AllByRecursion P (cond b (line_mark k ∷ marks_in ks) (marks_in ks))
  by true all = (a.0, all)
  by false all = all

marks-ascending : (ks : List KnownLine) → Ascends known_below ks → Ascends mark_below (marks_in ks)
marks-ascending [] a = tt
marks-ascending (k ∷ ks) a = by k.row.exact (marks-ascending ks a.1) where
  by : (b : Bool) → Ascends mark_below (marks_in ks) → Ascends mark_below (cond b (line_mark k ∷ marks_in ks) (marks_in ks))
  by true all = (marks-above (mark_below (line_mark k)) ks a.0, all)
  by false all = all

-- the marks of a lawful history ascend by year, and in it by position
pub marks-ascend : (h : List Entry) → IsLawful h → Ascends mark_below (marks_of h)
marks-ascend h law = subst (Ascends mark_below) (marks-in h) (marks-ascending (known_of h) (known-ascend h law))

mark_cmp-total : IsTotalOrder mark_cmp
mark_cmp-total = then_total (on_total (λ (m : Mark). m.year) int_cmp_total) (on_total (λ (m : Mark). m.position) int_cmp_total)

told-sorted-marks : (h : List Entry) (ms sorted : List Mark) → IsLawful h → IsSorted mark_cmp sorted → IsPermutation ms sorted → IsPermutation ms (marks_of h) → sorted ≡ marks_of h
told-sorted-marks h ms sorted law up p q =
    let below = λ (x y : Mark). is_lt (mark_cmp x y) in
    let same = λ (m : Mark). m in
    let ranks = ranks_by mark_cmp-total same in
    sorted-same below ranks sorted (marks_of h) (subst (Rises below) (map-id sorted) (rises-far below same sorted (sorted_far below ranks sorted up)))
    (ascends-map mark_below (Less_by (λ (x y : Mark). is_lt (mark_cmp x y))) (marks_of h) (λ a b r. lines-less (as_line a) (as_line b) r) (marks-ascend h law))
    (IsPermutation-trans sorted ms (marks_of h) (IsPermutation-sym ms sorted p) q)

-- version 1 has no marks
pub no-marks : (h : List Entry) → marks_of h ≡ [] → IsPermutation [] (marks_of h)
no-marks h e = subst (λ (l : List Mark). IsPermutation [] l) (sym e) (IsPermutation-refl [])

-- ---- lines that get their marks

-- the line with its row not marked
abbrev pub plain_line : KnownLine → KnownLine
plain_line k = marked false k

-- lines that get their marks remain the same rows of the table
pub walked-lines : (ms : List Mark) (ls : List KnownLine) → map line_in (walked ms ls) ≡ map line_in ls
walked-lines ms [] = refl
walked-lines ms (l ∷ ls) = ap (λ (x : List Line). line_in l ∷ x) (walked-lines (cond (is_next ms l) (later ms) ms) ls)

same-mark : (m : Mark) (l : KnownLine) → marks_line m l ≡ true → line_mark l ≡ m
same-mark m l e =
    let p = and_parts (int_eq m.year l.year) (int_eq m.position l.position) e in
    ap₂ (λ (y n : ℤ). record { year = y; position = n }) (sym ((signed_Decides m.year l.year).0 p.0)) (sym ((signed_Decides m.position l.position).0 p.1))

next-is : (ms : List Mark) (l : KnownLine) → is_next ms l ≡ true → line_mark l ∷ later ms ≡ ms
next-is [] l e = cc e
next-is (m ∷ ms) l e = ap (λ (x : Mark). x ∷ ms) (same-mark m l e)

-- the marks of the lines and those that are left are all marks
walked-marks : (ms : List Mark) (ls : List KnownLine) → marks_in (walked ms ls) ++ unused ms ls ≡ ms
walked-marks ms [] = refl
walked-marks ms (l ∷ ls) = by (is_next ms l) refl (walked-marks (cond (is_next ms l) (later ms) ms) ls) where
  by : (b : Bool) → b ≡ is_next ms l → marks_in (walked (cond b (later ms) ms) ls) ++ unused (cond b (later ms) ms) ls ≡ cond b (later ms) ms
      → cond b (line_mark l ∷ marks_in (walked (cond b (later ms) ms) ls)) (marks_in (walked (cond b (later ms) ms) ls)) ++ unused (cond b (later ms) ms) ls ≡ ms
  by true e ih = ap (λ (x : List Mark). line_mark l ∷ x) ih ∙ next-is ms l (sym e)
  by false e ih = ih

-- a mark of a later line does not name this one
not-named : (k l : KnownLine) → known_below l k → marks_line (line_mark k) l ≡ false
not-named k l r = by (marks_line (line_mark k) l) refl where
  by : (b : Bool) → b ≡ marks_line (line_mark k) l → b ≡ false
  by false e = refl
  by true e = absurd (let s : known_below l l = subst (mark_below (line_mark l)) (sym (same-mark (line_mark k) l (sym e))) r in mark-alone (line_mark l) (line_mark l) s s)

not-next : (l : KnownLine) (ks : List KnownLine) → AllByRecursion (known_below l) ks → is_next (marks_in ks) l ≡ false
not-next l [] a = refl
not-next l (k ∷ ks) a = by k.row.exact (not-next l ks a.1) where
  by : (b : Bool) → is_next (marks_in ks) l ≡ false → is_next (cond b (line_mark k ∷ marks_in ks) (marks_in ks)) l ≡ false
  by true e = not-named k l a.0
  by false e = e

named-itself : (k : KnownLine) → marks_line (line_mark k) k ≡ true
named-itself k = ap₂ (λ (a b : Bool). a && b) ((signed_Decides k.year k.year).1 refl) ((signed_Decides k.position k.position).1 refl)

next-right : (k : KnownLine) (ks : List KnownLine) → AllByRecursion (known_below k) ks → is_next (marks_in (k ∷ ks)) k ≡ k.row.exact
next-right k ks a = by k.row.exact where
  by : (b : Bool) → is_next (cond b (line_mark k ∷ marks_in ks) (marks_in ks)) k ≡ b
  by true = named-itself k
  by false = not-next k ks a

after : (b : Bool) (m : Mark) (ms : List Mark) → cond b (later (cond b (m ∷ ms) ms)) (cond b (m ∷ ms) ms) ≡ ms
after true m ms = refl
after false m ms = refl

abbrev first_known : KnownLine → List KnownLine → KnownLine
first_known d [] = d
first_known d (l ∷ ls) = l

abbrev rest_known : List KnownLine → List KnownLine
rest_known [] = []
rest_known (l ∷ ls) = ls

plain-next : (ms : List Mark) (k l : KnownLine) → plain_line l ≡ plain_line k → is_next ms l ≡ is_next ms k
plain-next [] k l e = refl
plain-next (m ∷ ms) k l e = ap (λ (x : KnownLine). marks_line m x) e

-- lines that ascend get their own marks again
walked-known : (ks ls : List KnownLine) → Ascends known_below ks → map plain_line ls ≡ map plain_line ks → (walked (marks_in ks) ls ≡ ks) × (unused (marks_in ks) ls ≡ [])
walked-known [] [] a e = (refl, refl)
walked-known [] (l ∷ ls) a e = absurd cc
walked-known (k ∷ ks) [] a e = absurd cc
walked-known (k ∷ ks) (l ∷ ls) a e =
    let one : plain_line l ≡ plain_line k = ap (first_known (plain_line k)) e in
    let ms : List Mark = marks_in (k ∷ ks) in
    let is : is_next ms l ≡ k.row.exact = plain-next ms k l one ∙ next-right k ks a.0 in
    let left : cond (is_next ms l) (later ms) ms ≡ marks_in ks = ap (λ (b : Bool). cond b (later ms) ms) is ∙ after k.row.exact (line_mark k) (marks_in ks) in
    let rest = walked-known ks ls a.1 (ap rest_known e) in (
      ap₂ (λ (b : Bool) (x : List Mark). marked b l ∷ walked x ls) is left
          ∙ ap₂ (λ (x : KnownLine) (xs : List KnownLine). x ∷ xs) (ap (λ (x : KnownLine). marked k.row.exact x) one) rest.0,
      ap (λ (x : List Mark). unused x ls) left ∙ rest.1,
    )

-- lines that get their marks remain as many
pub walked-length : (ms : List Mark) (ls : List KnownLine) → length (walked ms ls) ≡ length ls
walked-length ms [] = refl
walked-length ms (l ∷ ls) = ap suc (walked-length (cond (is_next ms l) (later ms) ms) ls)

-- all marks are used where none is left
pub all-used : (ms : List Mark) (ls : List KnownLine) (used : ℕ) → drop used ms ≡ unused ms ls → length ms ≤ used → marks_in (walked ms ls) ≡ ms
all-used ms ls used e le = sym (append-nil (marks_in (walked ms ls))) ∙ ap (λ (xs : List Mark). marks_in (walked ms ls) ++ xs) (sym (drop_all used ms le) ∙ e) ∙ walked-marks ms ls

-- where fewer marks are used than there are, some are left
pub not-used : {P : Type 0} (ms : List Mark) (ls : List KnownLine) (used : ℕ) → drop used ms ≡ unused ms ls → used < length ms → unused ms ls ≡ [] → P
not-used ms ls used e lt none = absurd (let n = length-drop used ms in let z = ap length (e ∙ none) in omega (arith, n, z, lt))

-- what is written to a whole list is the list then
pub written-whole : {A : Type 0} (n : ℕ) (new old : List A) → n ≡ length new → take n (new ++ drop (length new) old) ≡ new
written-whole n new old e = take-append-le n new (drop (length new) old) (omega (arith, e)) ∙ take-whole new n (omega (arith, e))

-- one line further
pub walk-step : (marks : List Mark) (next after : ℕ) (lines new : List KnownLine) (i : ℕ) (line : KnownLine) (named : Bool) (whole : List KnownLine) → i < length lines → line ≡ get_or lines i line
    → named ≡ is_next (drop next marks) line → drop after marks ≡ cond named (later (drop next marks)) (drop next marks) → new ≡ set lines i (marked named line)
    → take i lines ++ walked (drop next marks) (drop i lines) ≡ whole → take (i + 1) new ++ walked (drop after marks) (drop (i + 1) new) ≡ whole
walk-step marks next after lines new i line named whole lt at n d w inv =
    let front : take (i + 1) new ≡ take i lines ++ marked named line ∷ [] = ap (take (i + 1)) w ∙ take_more_set lines i (marked named line) lt in
    let rest : drop (i + 1) new ≡ drop (i + 1) lines = ap (drop (i + 1)) w ∙ drop-set-lt (i + 1) lines i (marked named line) (omega arith) in
    ap₂ (λ (xs ys : List KnownLine). xs ++ walked (drop after marks) ys) front rest
    ∙ append_assoc (take i lines) (marked named line ∷ []) (walked (drop after marks) (drop (i + 1) lines))
    ∙ ap (λ (ms : List Mark). take i lines ++ marked named line ∷ walked ms (drop (i + 1) lines)) d
    ∙ ap (λ (b : Bool). take i lines ++ marked b line ∷ walked (cond b (later (drop next marks)) (drop next marks)) (drop (i + 1) lines)) n
    ∙ ap (λ (ls : List KnownLine). take i lines ++ walked (drop next marks) ls) (sym (drop-at lines i line lt at)) ∙ inv

-- one line further, the marks that will be left at the end are the same
pub unused-step : (marks : List Mark) (next after : ℕ) (lines new : List KnownLine) (i : ℕ) (line : KnownLine) (named : Bool) (left : List Mark) → i < length lines → line ≡ get_or lines i line
    → named ≡ is_next (drop next marks) line → drop after marks ≡ cond named (later (drop next marks)) (drop next marks) → new ≡ set lines i (marked named line)
    → unused (drop next marks) (drop i lines) ≡ left → unused (drop after marks) (drop (i + 1) new) ≡ left
unused-step marks next after lines new i line named left lt at n d w inv =
    let rest : drop (i + 1) new ≡ drop (i + 1) lines = ap (drop (i + 1)) w ∙ drop-set-lt (i + 1) lines i (marked named line) (omega arith) in
    ap₂ (λ (ms : List Mark) (ys : List KnownLine). unused ms ys) d rest
    ∙ ap (λ (b : Bool). unused (cond b (later (drop next marks)) (drop next marks)) (drop (i + 1) lines)) n
    ∙ ap (λ (ls : List KnownLine). unused (drop next marks) ls) (sym (drop-at lines i line lt at)) ∙ inv

-- the next mark is used, or it stays
pub used-next : (marks : List Mark) (next : ℕ) → drop (next + 1) marks ≡ later (drop next marks)
used-next [] zero = refl
used-next [] (suc n) = grind (arith, common_steps)
used-next (m ∷ ms) zero = refl
used-next (m ∷ ms) (suc n) = (let e : suc n + 1 ≡ suc (n + 1) = omega arith in ap (λ (k : ℕ). drop k (m ∷ ms)) e) ∙ used-next ms n

-- where the next mark names a line, its position is within the list of marks
pub next-within : (marks : List Mark) (next : ℕ) (line : KnownLine) → is_next (drop next marks) line ≡ true → next + 1 ≤ length marks
next-within [] zero line e = cc e
next-within [] (suc n) line e = cc e
next-within (m ∷ ms) zero line e = omega arith
next-within (m ∷ ms) (suc n) line e = let lt = next-within ms n line e in omega (arith, lt)

-- ---- rows and lines

same-plain : (k l : KnownLine) → k.year ≡ l.year → k.position ≡ l.position → k.row.old ≡ l.row.old → k.row.new ≡ l.row.new → plain_line k ≡ plain_line l
same-plain k l a b c d =
    ap₂ (λ (y n : ℤ). record { year = y; position = n; row = record { old = k.row.old; new = k.row.new; exact = false } }) a b
    ∙ ap₂ (λ (o : List ℕ) (n : Option (List ℕ)). record { year = l.year; position = l.position; row = record { old = o; new = n; exact = false } }) c d

abbrev first_line : Line → List Line → Line
first_line d [] = d
first_line d (l ∷ ls) = l

abbrev rest_lines : List Line → List Line
rest_lines [] = []
rest_lines (l ∷ ls) = ls

plain-same : (ks ls : List KnownLine) → AllByRecursion (λ k. HasText k.row) ks → AllByRecursion (λ k. HasText k.row) ls → map line_in ks ≡ map line_in ls → map plain_line ks ≡ map plain_line ls
plain-same [] [] f g e = refl
plain-same [] (l ∷ ls) f g e = absurd cc
plain-same (k ∷ ks) [] f g e = absurd cc
plain-same (k ∷ ks) (l ∷ ls) f g e =
    let one : line_in k ≡ line_in l = ap (first_line (line_in k)) e in
    ap₂ (λ (x : KnownLine) (xs : List KnownLine). x ∷ xs) (same-plain k l (ap (λ (x : Line). x.year) one) (ap (λ (x : Line). x.position) one) (ap (λ (x : Line). x.old) one)
    (same-text k.row.new l.row.new f.0 g.0 (ap (λ (x : Line). x.new) one))) (plain-same ks ls f.1 g.1 (ap rest_lines e))

from-texts : (y : ℤ) (n : ℕ) (rs : List Row) → AllByRecursion HasText rs → AllByRecursion (λ k. HasText k.row) (known_from y n rs)
from-texts y n [] a = tt
from-texts y n (r ∷ rs) a = (a.0, from-texts y (n + 1) rs a.1)

of-texts : (h : List Entry) → AllByRecursion (λ e. AllByRecursion HasText e.rows) h → AllByRecursion (λ k. HasText k.row) (known_of h)
of-texts [] a = tt
of-texts (e ∷ h) a = all-append (λ k. HasText k.row) (known_from (pos e.year) 0 e.rows) (known_of h) (from-texts (pos e.year) 0 e.rows a.0) (of-texts h a.1)

known-texts : (h : List Entry) → IsKeptHistory h → AllByRecursion (λ k. HasText k.row) (known_of h)
known-texts h kept = of-texts h (have-texts h kept)

-- histories with the same lines and marks have the same rows
pub known-same : (h k : List Entry) → IsKeptHistory h → IsKeptHistory k → lineage_lines h ≡ lineage_lines k → marks_of h ≡ marks_of k → known_of h ≡ known_of k
known-same h k kept also lines marks =
    let plains = plain-same (known_of k) (known_of h) (known-texts k also) (known-texts h kept) (lines-in k ∙ sym lines ∙ sym (lines-in h)) in
    sym (walked-known (known_of h) (known_of k) (known-ascend h kept.lawful) plains).0
    ∙ ap (λ (ms : List Mark). walked ms (known_of k)) (marks-in h ∙ marks ∙ sym (marks-in k))
    ∙ (walked-known (known_of k) (known_of k) (known-ascend k also.lawful) refl).0

-- sorted lines get the marks of the history that has them
pub told-known : (h : List Entry) (ls : List Line) (ms sorted : List Mark) (read : List KnownLine) → IsKeptHistory h → IsSortedByKey line_in line_cmp read
    → IsPermutation ls (map line_in read) → All (λ k. HasText k.row) read → IsPermutation ls (lineage_lines h) → IsSorted mark_cmp sorted
    → IsPermutation ms sorted → IsPermutation ms (marks_of h) → (walked sorted read ≡ known_of h) × (unused sorted read ≡ [])
told-known h ls ms sorted read kept up p texts q ups r s =
    let lines : lineage_lines h ≡ map line_in read = sorted-lines ls read (lineage_lines h) up (lines-ascend h (years-ascend h kept.lawful)) p q in
    let plains = plain-same read (known_of h) (recursion_from_All (λ k. HasText k.row) read texts) (known-texts h kept) (sym lines ∙ sym (lines-in h)) in
    let marks : marks_in (known_of h) ≡ sorted = marks-in h ∙ sym (told-sorted-marks h ms sorted kept.lawful ups r s) in
    let w = walked-known (known_of h) read (known-ascend h kept.lawful) plains in
    (ap (λ (x : List Mark). walked x read) (sym marks) ∙ w.0, ap (λ (x : List Mark). unused x read) (sym marks) ∙ w.1)
