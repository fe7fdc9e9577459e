-- The words that stand before each state, and the limit on points.
use Rattle.std.proofs.Common.{◌≡◌, ℕ, ◌+◌, ◌*◌, ◌<◌, ◌≤◌, Bool, true, false, cond, List, [], ◌∷◌, ◌++◌, length, Ok, refl, ◌∙◌, arith, length-append}
use Rattle.lpis_wkt.proofs.Common.{nat_tests, Point, Member, most_points, Token, Open, Close, Comma, Word, End, point_of, token_words, most_words, Viable, Context, ParserState, AtKeyword}
use Rattle.lpis_wkt.proofs.Common.{AfterKeyword, AtBody}
use Rattle.lpis_wkt.proofs.Common.{AtRing, AtX, AtY, AfterPoint, AfterRing, AfterBody, AtEnd, Finished, with_ring, close_body, open_text, member_of, points_before, parse_step, run, limited_run}
use Rattle.std.proofs.lemmas.Bool.{false_from_ne_true}
use Rattle.std.proofs.lemmas.List.Sums.{sum_by-append, sum_by_push}
use Rattle.lpis_rings.specs.Polygon.{points_in, points_of}
use Rattle.lpis_wkt.specs.Grammar.{Accepts}
use Rattle.lpis_wkt.specs.private.Machine.{is_too_many}
use Rattle.lpis_wkt.proofs.StepLemmas.{then-ok, with_coordinate-ok, cond-err, Goes, goes, takes_keyword, opens_text, opens_body, opens_ring, takes_x, takes_y, closes_ring, next_point, closes_body}
use Rattle.lpis_wkt.proofs.StepLemmas.{next_ring, closes_text, next_body, finishes}
use Rattle.lpis_wkt.proofs.CompletenessLemmas.{reads_runs}
use Rattle.lpis_wkt.proofs.SoundnessLemmas.{runs_reads}
use Rattle.lpis_wkt.proofs.CompletingLemmas.{taken_begins_text, begun_is_taken}

-- the limit
abbrev pub has_words : ParserState → ℕ
has_words AtKeyword = 0
has_words (AfterKeyword m) = 1
has_words (AtBody ms) = 2 * points_of ms + 1
has_words (AtRing b) = 2 * points_before b + 1
has_words (AtX b ps) = 2 * (points_before b + length ps) + 1
has_words (AtY b ps x) = 2 * (points_before b + length ps) + 2
has_words (AfterPoint b ps) = 2 * (points_before b + length ps) + 1
has_words (AfterRing b) = 2 * points_before b + 1
has_words (AfterBody ms) = 2 * points_of ms + 1
has_words (AtEnd ms) = 2 * points_of ms + 1
has_words (Finished ms) = 2 * points_of ms + 1

points_in-push : (rs : List (List Point)) (r : List Point) → points_in (rs ++ r ∷ []) ≡ points_in rs + length r
points_in-push rs r = sum_by_push length rs r

points_of-push : (ms : List Member) (m : Member) → points_of (ms ++ m ∷ []) ≡ points_of ms + (length m.shell + points_in m.holes)
points_of-push ms m = sum_by_push (λ m. length m.shell + points_in m.holes) ms m

member-points : (rs : List (List Point)) → length (member_of rs).shell + points_in (member_of rs).holes ≡ points_in rs
member-points [] = refl
member-points (r ∷ rs) = omega (arith, sum_by-append (λ (l : List Point). length l) (r ∷ []) rs)

open-words : (m : Bool) → has_words (open_text m) ≡ 1
open-words true = refl
open-words false = refl

close-words-by : (m : Bool) (ms : List Member) → has_words (cond m (AfterBody ms) (AtEnd ms)) ≡ 2 * points_of ms + 1
close-words-by true ms = refl
close-words-by false ms = refl

close-words : (b : Context) → has_words (close_body b) ≡ 2 * points_before b + 1
close-words b = close-words-by b.multi (b.members ++ member_of b.rings ∷ [])
    ∙ (let e = points_of-push b.members (member_of b.rings) in let f = member-points b.rings in
    let g : points_of (b.members ++ member_of b.rings ∷ []) ≡ points_before b = omega arith in rw g refl)

ring-words : (b : Context) (ps : List Point) → has_words (AfterRing (with_ring b ps)) ≡ 2 * (points_before b + length ps) + 1
ring-words b ps = omega (arith, points_in-push b.rings ps)

abbrev word : Token → ℕ
word (Word w) = 1
word _ = 0

words-cons : (t : Token) (ts : List Token) → token_words (t ∷ ts) ≡ word t + token_words ts
words-cons (Word w) ts = omega arith
words-cons _ ts = omega arith

one_word : (s : ParserState) (t : Token) (s' : ParserState) → Goes s t s' → has_words s' ≡ has_words s + word t
one_word s t s' (takes_keyword w m) = refl
one_word s t s' (opens_text m) = open-words m
one_word s t s' (opens_body ms) = omega arith
one_word s t s' (opens_ring b) = omega arith
one_word s t s' (takes_x b ps w z e) = omega arith
one_word s t s' (takes_y b ps v w z e) = omega (arith, length-append ps (point_of v z ∷ []))
one_word s t s' (closes_ring b ps) = ring-words b ps ∙ omega arith
one_word s t s' (next_point b ps) = omega arith
one_word s t s' (closes_body b) = close-words b ∙ omega arith
one_word s t s' (next_ring b) = omega arith
one_word s t s' (closes_text ms) = omega arith
one_word s t s' (next_body ms) = omega arith
one_word s t s' (finishes ms) = omega arith

-- a token that is too many makes one word more than the most_words has, and no other does
too-many : (s : ParserState) (t : Token) (s' : ParserState) → parse_step s t ≡ Ok s' → is_too_many s t ≡ true → most_words < has_words s'
too-many (AtX b ps) (Word w) s' h k = let n = with_coordinate-ok _ _ _ h in let many : most_points ≤ points_before b + length ps = grind (arith, nat_tests) in rw (← n.2) (omega arith)
too-many _ _ s' h k = cc

not-too-many : (s : ParserState) (t : Token) (s' : ParserState) → parse_step s t ≡ Ok s' → is_too_many s t ≡ false → has_words s ≤ most_words → has_words s' ≤ most_words
not-too-many s Open s' h k le = rw (one_word _ _ _ (goes s Open s' h)) (omega arith)
not-too-many s Close s' h k le = rw (one_word _ _ _ (goes s Close s' h)) (omega arith)
not-too-many s Comma s' h k le = rw (one_word _ _ _ (goes s Comma s' h)) (omega arith)
not-too-many s End s' h k le = rw (one_word _ _ _ (goes s End s' h)) (omega arith)
not-too-many AtKeyword (Word w) s' h k le = rw (one_word _ _ _ (goes AtKeyword (Word w) s' h)) (omega arith)
not-too-many (AtX b ps) (Word w) s' h k le = let few : points_before b + length ps < most_points = grind (arith, nat_tests) in rw (one_word _ _ _ (goes (AtX b ps) (Word w) s' h)) (omega arith)
not-too-many (AtY b ps x) (Word w) s' h k le = rw (one_word _ _ _ (goes (AtY b ps x) (Word w) s' h)) (omega arith)
not-too-many _ _ s' h k le = cc

-- from a state with no more words than the most, tokens taken with the limit are taken without it, and keep to it
pub limited-run-ok : (ts : List Token) (s s' : ParserState) → has_words s ≤ most_words → limited_run s ts ≡ Ok s' → (run s ts ≡ Ok s') × (has_words s + token_words ts ≤ most_words)
limited-run-ok [] s s' le h = (h, omega arith)
limited-run-ok (t ∷ ts) s s' le h =
    let a = then-ok _ _ _ h in
    let b = cond-err _ _ _ _ a.1 in
    let one : has_words a.0 ≡ has_words s + word t = one_word s t a.0 (goes s t a.0 b.1) in
    let le2 : has_words a.0 ≤ most_words = not-too-many s t a.0 b.1 b.0 le in
    let r = limited-run-ok ts a.0 s' le2 a.2 in
    let total : has_words a.0 + token_words ts ≤ most_words = r.1 in
    let all : token_words (t ∷ ts) ≡ word t + token_words ts = words-cons t ts in
    (rw b.1 r.0, rw all (omega arith))

run-limited : (ts : List Token) (s s' : ParserState) → run s ts ≡ Ok s' → has_words s + token_words ts ≤ most_words → limited_run s ts ≡ Ok s'
run-limited [] s s' h le = h
run-limited (t ∷ ts) s s' h le =
    let a = then-ok _ _ _ h in
    let one : has_words a.0 ≡ has_words s + word t = one_word s t a.0 (goes s t a.0 a.1) in
    let all : token_words (t ∷ ts) ≡ word t + token_words ts = words-cons t ts in
    let le2 : has_words a.0 + token_words ts ≤ most_words = let le3 = rw all at le in omega arith in
    let fine : is_too_many s t ≡ false = false_from_ne_true (is_too_many s t) (λ k. (let big = too-many s t a.0 a.1 k in omega arith)) in
    rw (fine, a.1) (run-limited ts a.0 s' a.2 le2)

-- tokens that the machine takes with the limit on points are viable
pub taken_is_viable : (ts : List Token) (s : ParserState) → limited_run AtKeyword ts ≡ Ok s → Viable ts
taken_is_viable ts s h = let r = limited-run-ok ts AtKeyword s (omega arith) h in (taken_begins_text ts s r.0, omega (arith, r.1))

-- the machine takes viable tokens with the limit on points
pub viable_is_taken : (ts : List Token) → Viable ts → (s : ParserState) × (limited_run AtKeyword ts ≡ Ok s)
viable_is_taken ts v = let b = begun_is_taken ts v.0 in (b.0, run-limited ts AtKeyword b.0 b.1 (omega (arith, v.1)))

-- a run adds the words of its tokens to those that stand before the state
pub words-run : (ts : List Token) (s s' : ParserState) → run s ts ≡ Ok s' → has_words s' ≡ has_words s + token_words ts
words-run [] s s' h = let e : s ≡ s' = cc in rw (← e) (omega arith)
words-run (t ∷ ts) s s' h =
    let a = then-ok _ _ _ h in
    let one : has_words a.0 ≡ has_words s + word t = one_word s t a.0 (goes s t a.0 a.1) in
    let all : token_words (t ∷ ts) ≡ word t + token_words ts = words-cons t ts in
    let rest : has_words s' ≡ has_words a.0 + token_words ts = words-run ts a.0 s' a.2 in
    rw all (omega arith)

-- where the machine finishes within the limit, the tokens spell its members, which do not have too many points
pub finished_is_accepted : (ts : List Token) (ps : List Member) → limited_run AtKeyword ts ≡ Ok (Finished ps) → Accepts ts ps
finished_is_accepted ts ps h =
    let r = limited-run-ok ts AtKeyword (Finished ps) (omega arith) h in
    let n : 2 * points_of ps + 1 ≡ 0 + token_words ts = words-run ts AtKeyword (Finished ps) r.0 in
    (runs_reads ts ps r.0, omega (arith, r.1))

-- where the tokens spell members that do not have too many points, the machine finishes with them within the limit
pub accepted_is_finished : (ts : List Token) (ps : List Member) → Accepts ts ps → limited_run AtKeyword ts ≡ Ok (Finished ps)
accepted_is_finished ts ps h =
    let r = reads_runs ts ps h.0 in
    let n : 2 * points_of ps + 1 ≡ 0 + token_words ts = words-run ts AtKeyword (Finished ps) r in
    run-limited ts AtKeyword (Finished ps) r (omega (arith, h.1))
