-- Where a word or a space stands, the tokens from there on are those after it.
use Rattle.std.proofs.Common.{◌≡◌, ℕ, zero, suc, ◌+◌, ◌-◌, ◌<◌, ◌≤◌, Bool, true, false, cond, not, ◌||◌, ◌==◌, List, [], ◌∷◌, ◌++◌, length, take, drop, get_or, refl, sym, ap, ◌∙◌, arith, drop-cons}
use Rattle.std.proofs.Common.{slice_range, length-drop, inl, inr}
use Rattle.lpis_wkt.proofs.Common.{nat_tests, Token, Open, Close, Comma, Word, tokens_from, is_word}
use Rattle.std.proofs.lemmas.Bool.{cases_lt}
use Rattle.std.proofs.lemmas.List.{take-append-drop, length-take-le, drop-drop, nil_from_length}
use Rattle.lpis_wkt.specs.private.Runs.{AllWord, Stops}
use Rattle.lpis_wkt.specs.Tokens.{is_space, join}

abbrev Tokens : Type 0
Tokens = List (ℕ × Token)

-- the tokens from a byte on, by what it is
abbrev token_by_byte : Bool → Bool → Bool → Bool → ℕ → Tokens → Tokens → Tokens
token_by_byte s o c m at rest w = cond s rest (cond o ((at, Open) ∷ rest) (cond c ((at, Close) ∷ rest) (cond m ((at, Comma) ∷ rest) w)))

token_of_letter : (s o c m : Bool) (at : ℕ) (rest w : Tokens) → not (s || o || c || m) ≡ true → token_by_byte s o c m at rest w ≡ w
token_of_letter false false false false at rest w h = refl
token_of_letter _ _ _ _ at rest w h = cc

-- the first token stands at n or after it
abbrev From : ℕ → Tokens → Type 0
From n [] = Unit {0}
From n (t ∷ ts) = n ≤ t.0

from-join : (at b : ℕ) (ts : Tokens) → From at (join at b ts)
from-join at b ((next, Word w) ∷ ts) =
    elim (next == at + 1) as
    (λ v. From at (cond v ((at, Word (b ∷ w)) ∷ ts) ((at, Word (b ∷ [])) ∷ (next, Word w) ∷ ts)))
    [ true ↦ omega arith | false ↦ omega arith ]
from-join at b _ = omega arith

from-later : (m n : ℕ) (ts : Tokens) → m ≤ n → From n ts → From m ts
from-later m n [] le h = tt
from-later m n (t ∷ ts) le h = omega arith

from-token_by_byte : (s o c m : Bool) (at : ℕ) (rest w : Tokens) → From at rest → From at w → From at (token_by_byte s o c m at rest w)
from-token_by_byte true o c m at rest w h k = h
from-token_by_byte false false false false at rest w h k = k
from-token_by_byte _ _ _ _ at rest w h k = omega arith

from-tokens : (at : ℕ) (bs : List ℕ) → From at (tokens_from at bs)
from-tokens at [] = tt
from-tokens at (b ∷ bs) = from-token_by_byte (is_space b) (b == 40) (b == 41) (b == 44) at (tokens_from (at + 1) bs)
    (join at b (tokens_from (at + 1) bs)) (from-later at (at + 1) _ (omega arith) (from-tokens (at + 1) bs))
    (from-join at b (tokens_from (at + 1) bs))

apart : (at b : ℕ) (ts : Tokens) → From (at + 2) ts → join at b ts ≡ (at, Word (b ∷ [])) ∷ ts
apart at b ((next, Word w) ∷ ts) h =
    let other : (next == at + 1) ≡ false = grind (arith, nat_tests) in
    rw other refl
apart _ _ _ _ = refl

apart-token_by_byte : (s o c m : Bool) (at b : ℕ) (rest w : Tokens) → not (s || o || c || m) ≡ false
    → From (at + 2) rest → join at b (token_by_byte s o c m (at + 1) rest w) ≡ (at, Word (b ∷ [])) ∷ token_by_byte s o c
    m (at + 1) rest w
apart-token_by_byte true o c m at b rest w h k = apart at b rest k
apart-token_by_byte false false false false at b rest w h k = cc
apart-token_by_byte _ _ _ _ _ _ _ _ _ _ = refl

last_byte : (at b : ℕ) (rest : List ℕ) → Stops rest → join at b (tokens_from (at + 1) rest) ≡ (at, Word (b ∷ [])) ∷ tokens_from (at + 1) rest
last_byte at b [] h = refl
last_byte at b (c ∷ rest) h =
    let two : at + 1 + 1 ≡ at + 2 = omega arith in
    let later : From (at + 2) (tokens_from (at + 1 + 1) rest) = rw (← two) (from-tokens (at + 1 + 1) rest) in
    apart-token_by_byte (is_space c) (c == 40) (c == 41) (c == 44) at b (tokens_from (at + 1 + 1) rest) (join (at + 1) c (tokens_from (at + 1 + 1) rest)) h later

first_byte : (at b : ℕ) (bs : List ℕ) → is_word b ≡ true → tokens_from at (b ∷ bs) ≡ join at b (tokens_from (at + 1) bs)
first_byte at b bs h = token_of_letter (is_space b) (b == 40) (b == 41) (b == 44) at (tokens_from (at + 1) bs) (join at b (tokens_from (at + 1) bs)) h

-- where bytes of a word stand and no word goes on behind them, the first token is the word of all of them
pub whole_word : (at b : ℕ) (w rest : List ℕ) → is_word b ≡ true → AllWord w → Stops rest → tokens_from at (b ∷ w ++ rest) ≡ (at, Word (b ∷ w)) ∷ tokens_from (at + suc (length w)) rest
whole_word at b [] rest h all stops = first_byte at b rest h ∙ last_byte at b rest stops
whole_word at b (c ∷ w) rest h all stops =
    let ih : tokens_from (at + 1) (c ∷ w ++ rest) ≡ (at + 1, Word (c ∷ w)) ∷ tokens_from (at + 1 + suc (length w)) rest = whole_word (at + 1) c w rest all.0 all.1 stops in
    let here : (at + 1 == at + 1) ≡ true = grind (arith, nat_tests) in
    let end : at + 1 + suc (length w) ≡ at + suc (suc (length w)) = omega arith in
    first_byte at b (c ∷ w ++ rest) h ∙ ap (join at b) ih ∙ rw here (ap (λ (n : ℕ). (at, Word (b ∷ c ∷ w)) ∷ tokens_from n rest) end)

all-word : (n at : ℕ) (text : List ℕ) → at + n ≤ length text → ((k : ℕ) → at ≤ k → k < at + n → is_word (get_or text k 0) ≡ true) → AllWord (take n (drop at text))
all-word zero at text le h = tt
all-word (suc n) at text le h =
    let lt : at < length text = omega arith in
    rw (drop-cons text at 0) (h at (omega arith) (omega arith), all-word n (suc at) text (omega arith) (λ k a b. h k (omega arith) (omega arith)))

-- at the end of the text, or at a byte of no word, no word goes on
pub stops-at : (i : ℕ) (text : List ℕ) → (i < length text → is_word (get_or text i 0) ≡ false) → Stops (drop i text)
stops-at i text h = elim (cases_lt i (length text)) [
  | inl lt ↦ rw (drop-cons text i 0) (h lt)
  | inr le ↦ rw (nil_from_length (drop i text) (simp length-drop (omega arith))) tt
]

-- where the bytes between two offsets are of a word, and the one behind is not, their slice is the next token
pub word_token : (at end : ℕ) (text : List ℕ) → at < end → end ≤ length text → ((k : ℕ) → at ≤ k → k < end → is_word (get_or text k 0) ≡ true)
    → (end < length text → is_word (get_or text end 0) ≡ false) → tokens_from at (drop at text) ≡ (at, Word (slice_range text at end)) ∷ tokens_from end (drop end text)
word_token at end text lt le all stop =
    let m : ℕ = end - suc at in
    let tail : List ℕ = drop (suc at) text in
    let size : end - at ≡ suc m = omega arith in
    let goes : suc at + m ≡ end = omega arith in
    let here : at < length text = omega arith in
    let split : tail ≡ take m tail ++ drop end text = sym (take-append-drop m tail) ∙ ap (λ (l : List ℕ). take m tail ++ l) (drop-drop m (suc at) text ∙ ap (λ (n : ℕ). drop n text) goes) in
    let bytes : drop at text ≡ get_or text at 0 ∷ take m tail ++ drop end text = drop-cons text at 0 here ∙ ap (λ (l : List ℕ). get_or text at 0 ∷ l) split in
    let fits : m ≤ length tail = simp length-drop (omega arith) in
    let count : at + suc (length (take m tail)) ≡ end = omega (arith, length-take-le m tail fits) in
    let word : slice_range text at end ≡ get_or text at 0 ∷ take m tail = ap (λ (n : ℕ). take n (drop at text)) size ∙ ap (take (suc m)) (drop-cons text at 0 here) in
    let all_word : AllWord (take m tail) = all-word m (suc at) text (omega arith) (λ k a b. all k (omega arith) (omega arith)) in
    ap (tokens_from at) bytes
    ∙ whole_word at (get_or text at 0) (take m tail) (drop end text) (all at (omega arith) lt) all_word (stops-at end text stop)
    ∙ ap (λ (n : ℕ). (at, Word (get_or text at 0 ∷ take m tail)) ∷ tokens_from n (drop end text)) count
    ∙ ap (λ (w : List ℕ). (at, Word w) ∷ tokens_from end (drop end text)) (sym word)
