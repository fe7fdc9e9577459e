-- A list cut at the first element that passes a test.
use Rattle.std.proofs.Common.{◌≡◌, ℕ, ◌+◌, ◌-◌, ◌<◌, ◌≤◌, Bool, true, false, cond, ◌||◌, List, [], ◌∷◌, ◌++◌, length, take, drop, get_or, Option, Some, None}
use Rattle.std.proofs.Common.{refl, ap, ◌∙◌, arith, length-drop}
use Rattle.std.proofs.Common.{drop-cons, add-one, position}
use Rattle.lpis_cert.proofs.Common.{nat_tests, onto_first, list_any, is_gap, is_empty, words, is_lf}
use Rattle.std.proofs.lemmas.List.{take_all, drop_all}
use Rattle.std.proofs.lemmas.List.Sums.{split_at_first, fails_before_first, passes_at_first}
use Rattle.std.proofs.lemmas.List.Splits.{slice_split_none, slice_split_first}
use Rattle.std.specs.List.{slice_split, position_or_len}
use Rattle.lpis_cert.specs.private.Taken.{TakesLine}

chosen-some : (k i : ℕ) (b : Bool) → cond b (Some k) None ≡ Some i → (b ≡ true) × (k ≡ i)
chosen-some k i true h = (refl, cc)
chosen-some k i false h = absurd cc

chosen-none : (k : ℕ) (b : Bool) → cond b (Some k) None ≡ None → b ≡ false
chosen-none k true h = absurd cc
chosen-none k false h = refl

found : (p : ℕ → Bool) (xs : List ℕ) (i : ℕ) → position p xs ≡ Some i → (i < length xs) × (position_or_len p xs ≡ i)
found p xs i h = grind (arith, nat_tests, chosen-some)

missed : (p : ℕ → Bool) (xs : List ℕ) → position p xs ≡ None → length xs ≤ position_or_len p xs
missed p xs h = grind (arith, nat_tests, chosen-none)

-- a list without an element that passes the test stays whole
pub uncut_without_match : (p : ℕ → Bool) (xs : List ℕ) → position p xs ≡ None → slice_split p xs ≡ xs ∷ []
uncut_without_match p xs h = grind (arith, slice_split_none, fails_before_first)

-- the rest, as a slice of the code is seen
pub rest_is : (xs : List ℕ) (i : ℕ) → take (length xs - (i + 1)) (drop (i + 1) xs) ≡ drop (i + 1) xs
rest_is xs i = grind (arith, take_all, length-drop)

-- a list is cut at the first element that passes the test, and what comes after that is cut on
pub cut : (p : ℕ → Bool) (xs : List ℕ) (i : ℕ) → position p xs ≡ Some i
    → (slice_split p xs ≡ take i xs ∷ slice_split p (take (length xs - (i + 1)) (drop (i + 1) xs)))
    × (xs ≡ take i xs ++ (get_or xs i 0 ∷ take (length xs - (i + 1)) (drop (i + 1) xs)))
    × (p (get_or xs i 0) ≡ true)
cut p xs i h = grind (arith, slice_split_first, split_at_first, passes_at_first, rest_is)

is_ten : (b : ℕ) → is_lf b ≡ true → b ≡ 10
is_ten b h = grind (arith, nat_tests)

-- a text with a line end has what comes before the first one as its first line
pub takes_line : (xs : List ℕ) (n i : ℕ) → position is_lf xs ≡ Some i → TakesLine xs n (take i xs) (take (length xs - (i + 1)) (drop (i + 1) xs)) (n + 1)
takes_line xs n i h =
    let c = cut is_lf xs i h in
    let e = is_ten (get_or xs i 0) c.2 in
    record { parts = rw e at c.1; split = c.0; next = refl }

-- ---- counting words

-- how many words there are in all, after n of them and perhaps a part of one; no count where a word is empty
abbrev pub gaps : Bool → ℕ → List ℕ → Option ℕ
gaps in_word n [] = cond in_word (Some (n + 1)) None
gaps in_word n (b ∷ bs) = cond (is_gap b) (cond in_word (gaps false (n + 1) bs) None) (gaps true n bs)

abbrev counted : Bool → ℕ → List (List ℕ) → Option ℕ
counted in_word n [] = None
counted in_word n (w ∷ ws) = cond (cond in_word false (is_empty w) || list_any is_empty ws) None (Some (n + (length ws + 1)))

-- a list that is cut has at least one part
pub split_some : (p : ℕ → Bool) (bs : List ℕ) → (v : List ℕ) × (vs : List (List ℕ)) × (slice_split p bs ≡ v ∷ vs)
split_some p [] = ([], [], refl)
split_some p (b ∷ bs) = by_test (p b) b (slice_split p bs) (split_some p bs)
  where
    by_test : (t : Bool) (b : ℕ) (ws : List (List ℕ)) → ((v : List ℕ) × (vs : List (List ℕ)) × (ws ≡ v ∷ vs))
        → (v : List ℕ) × (vs : List (List ℕ)) × (cond t ([] ∷ ws) (onto_first b ws) ≡ v ∷ vs)
    by_test true b ws h = ([], ws, refl)
    by_test false b ws h = (b ∷ h.0, h.1, ap (onto_first b) h.2)

one_gap : (w g : Bool) (n b : ℕ) (v : List ℕ) (vs : List (List ℕ)) (r s : Option ℕ) → r ≡ counted false (n + 1) (v ∷ vs) → s ≡ counted true n (v ∷ vs)
    → cond g (cond w r None) s ≡ counted w n (cond g ([] ∷ v ∷ vs) (onto_first b (v ∷ vs)))
one_gap true true n b v vs r s h k = grind arith
one_gap false true n b v vs r s h k = refl
one_gap _ _ n b v vs r s h k = k

gaps_are : (in_word : Bool) (n : ℕ) (bs : List ℕ) → gaps in_word n bs ≡ counted in_word n (words bs)
gaps_are true n [] = refl
gaps_are false n [] = refl
gaps_are w n (b ∷ bs) =
    let parts = split_some is_gap bs in
    let e = parts.2 in
    let h : gaps false (n + 1) bs ≡ counted false (n + 1) (words bs) = gaps_are false (n + 1) bs in
    let k : gaps true n bs ≡ counted true n (words bs) = gaps_are true n bs in
    rw e (one_gap w (is_gap b) n b parts.0 parts.1 (gaps false (n + 1) bs) (gaps true n bs) (rw e at h) (rw e at k))

counted_is : (ws : List (List ℕ)) → ((v : List ℕ) × (vs : List (List ℕ)) × (ws ≡ v ∷ vs))
    → counted false 0 ws ≡ cond (list_any is_empty ws) None (Some (length ws))
counted_is [] h = absurd cc
counted_is (w ∷ ws) h = grind arith

-- the count of the words of a line, byte by byte, is their number; it fails exactly where one of them is empty
pub count_is : (bs : List ℕ) → gaps false 0 bs ≡ cond (list_any is_empty (words bs)) None (Some (length (words bs)))
count_is bs = gaps_are false 0 bs ∙ counted_is (words bs) (split_some is_gap bs)

-- at a space with no word right before it, the count fails
pub empty_word_uncounted : (w : Bool) (n i : ℕ) (bs : List ℕ) → i < length bs → is_gap (get_or bs i 0) ≡ true → w ≡ false → gaps w n (drop i bs) ≡ None
empty_word_uncounted w n i bs lt g f = grind (arith, add-one, drop-cons)

-- past the last byte the count is one more than so far within a word, and fails outside
pub count_at_end : (w v : Bool) (n i : ℕ) (bs : List ℕ) → length bs ≤ i → w ≡ v → gaps w n (drop i bs) ≡ cond v (Some (n + 1)) None
count_at_end w v n i bs le e = rw (drop_all i bs le, e) refl
