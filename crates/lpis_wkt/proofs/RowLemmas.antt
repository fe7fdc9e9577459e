-- The code of the first fault is that of the table.
use Rattle.std.proofs.Common.{◌≡◌, ℕ, ◌+◌, ◌*◌, ◌≤◌, Bool, true, false, cond, ◌==◌, List, [], ◌∷◌, ◌++◌, length, Result, Ok, Err, refl, sym, ap, subst, ◌∙◌, inl, inr, arith, nat_le, nat_lt, codes}
use Rattle.lpis_wkt.proofs.Common.{nat_tests, most_points, WktCode, Coordinate, Token, Open, Close, Comma, Word, End, number, coordinate_in_range, point_of, is_polygon, is_multi, token_words}
use Rattle.lpis_wkt.proofs.Common.{most_words}
use Rattle.lpis_wkt.proofs.Common.{keyword_code, Point, Context, ParserState, AtKeyword, AfterKeyword, AtBody, AtRing, AtX, AtY, AfterPoint, AfterRing, AfterBody, AtEnd, Finished, is_closed}
use Rattle.lpis_wkt.proofs.Common.{with_ring}
use Rattle.lpis_wkt.proofs.Common.{points_before, parse_step, run, limited_step, limited_run}
use Rattle.std.proofs.lemmas.Bool.{cases_lt}
use Rattle.lpis_wkt.specs.declared.fault.WktCode.TheVariants.{TooFewPoints, NotClosed, TooManyPoints}
use Rattle.lpis_wkt.specs.Viable.{Stands}
use Rattle.lpis_wkt.specs.Table.{number_code, coordinate_code, TableCode, at_keyword, at_first_open, at_open, at_coordinate, at_after_point, at_after_close, at_past_end}
use Rattle.lpis_wkt.specs.private.Machine.{with_coordinate}
use Rattle.lpis_wkt.proofs.PointLemmas.{err-coordinate}
use Rattle.lpis_wkt.proofs.StepLemmas.{run-append}
use Rattle.lpis_wkt.proofs.CompletingLemmas.{origin, zero_spelled, taken_begins_text}
use Rattle.lpis_wkt.proofs.CountingLemmas.{has_words, words-run, limited-run-ok}
use Rattle.lpis_wkt.proofs.TailLemmas.{Tail, tail}

-- a token that the step takes can stand
pub stands : (before : List Token) (s s' : ParserState) (t : Token) → run AtKeyword before ≡ Ok s → parse_step s t ≡ Ok s' → Stands before t
stands before s s' t h k = taken_begins_text (before ++ t ∷ []) s' (run-append AtKeyword before (t ∷ []) ∙ rw (h, k) refl)

-- the code of an error is that of the table
told : {before : List Token} {t : Token} {a code : WktCode} → TableCode before t a → ◌≡◌ {A = Result ParserState WktCode} (Err a) (Err code) → TableCode before t code
told {before} {t} h k = subst (TableCode before t) (cc k) h

at_start : {before : List Token} {t : Token} → before ≡ [] → TableCode before t (keyword_code t)
at_start {before} {t} r = subst (λ (l : List Token). TableCode l t (keyword_code t)) (sym r) at_keyword

x-stands : (before : List Token) (b : Context) (ps : List Point) → run AtKeyword before ≡ Ok (AtX b ps) → Stands before (Word (codes "0"))
x-stands before b ps h = stands before _ (AtY b ps origin) (Word (codes "0")) h (rw zero_spelled refl)

y-stands : (before : List Token) (b : Context) (ps : List Point) (x : Coordinate) → run AtKeyword before ≡ Ok (AtY b ps x) → Stands before (Word (codes "0"))
y-stands before b ps x h = stands before _ (AfterPoint b (ps ++ point_of x origin ∷ [])) (Word (codes "0")) h (rw zero_spelled refl)

-- where a keyword's step fails, its code is the one for a word that is no keyword
pub keyword-code : (p m : Bool) (f code : WktCode) → cond p (Ok (AfterKeyword false)) (cond m (Ok (AfterKeyword true)) (Err f)) ≡ Err code → f ≡ code
keyword-code false false f code h = cc
keyword-code _ _ f code h = cc

coordinate-code : (r : Result Coordinate WktCode) (f : Coordinate → ParserState) (code : WktCode) → with_coordinate r f ≡ Err code → r ≡ Err code
coordinate-code (Ok z) f code h = cc
coordinate-code (Err e) f code h = cc

-- where the step of a coordinate fails, its code is what is wrong with the number of the word
pub number-code : (w : List ℕ) (f : Coordinate → ParserState) (code : WktCode) → with_coordinate (coordinate_in_range w) f ≡ Err code → number_code (number w) ≡ code
number-code w f code h = rw (err-coordinate w code (coordinate-code (coordinate_in_range w) f code h)) refl

-- where the step of an x fails, its code is too many points where there are, and else what is wrong with its number
pub limited-code : (many : Bool) (w : List ℕ) (f : Coordinate → ParserState) (code : WktCode) → cond many (Err TooManyPoints)
    (with_coordinate (coordinate_in_range w) f) ≡ Err code → cond many TooManyPoints (number_code (number w)) ≡ code
limited-code true w f code h = cc
limited-code false w f code h = number-code w f code h

-- where closing a ring fails, its code is too few points where there are, and else a ring that is not closed
pub close-code : (few closed : Bool) (b : ParserState) (code : WktCode) → cond few (Err TooFewPoints) (cond closed (Ok b) (Err NotClosed)) ≡ Err code → cond few TooFewPoints NotClosed ≡ code
close-code false false b code h = cc
close-code _ _ b code h = cc

-- before an x, with no more points than the most, the points are the most exactly where the words are
pub same-test : (n token_words : ℕ) → token_words ≡ 2 * n + 1 → n ≤ most_points → nat_le most_points n ≡ (token_words == most_words)
same-test n token_words h le = elim (cases_lt n most_points) [
  | inl lt ↦ (let a : nat_le most_points n ≡ false = grind (arith, nat_tests) in let b : (token_words == most_words) ≡ false = grind (arith, nat_tests) in a ∙ sym b)
  | inr ge ↦ (let a : nat_le most_points n ≡ true = grind (arith, nat_tests) in let b : (token_words == most_words) ≡ true = grind (arith, nat_tests) in a ∙ sym b)
]

-- before a y, the words are an even number, and never the most
pub even-test : (n token_words : ℕ) → token_words ≡ 2 * n + 2 → (token_words == most_words) ≡ false
even-test n token_words h = grind (arith, nat_tests)

coded : (before : List Token) (t : Token) (s : ParserState) (code : WktCode) → Tail s before → run AtKeyword before ≡ Ok s → has_words s ≡ token_words before → has_words s ≤ most_words
    → limited_step s t ≡ Err code → TableCode before t code
coded before Open AtKeyword code r h n le k = told (at_start r) k
coded before Close AtKeyword code r h n le k = told (at_start r) k
coded before Comma AtKeyword code r h n le k = told (at_start r) k
coded before End AtKeyword code r h n le k = told (at_start r) k
coded before (Word w) AtKeyword code r h n le k = subst (TableCode before (Word w)) (keyword-code (is_polygon w) (is_multi w) (keyword_code (Word w)) code k) (at_start r)
coded before Open (AfterKeyword m) code r h n le k = cc
coded before Close (AfterKeyword m) code r h n le k = told (at_first_open (stands before _ _ Open h refl) r) k
coded before Comma (AfterKeyword m) code r h n le k = told (at_first_open (stands before _ _ Open h refl) r) k
coded before End (AfterKeyword m) code r h n le k = told (at_first_open (stands before _ _ Open h refl) r) k
coded before (Word w) (AfterKeyword m) code r h n le k = told (at_first_open (stands before _ _ Open h refl) r) k
coded before Open (AtBody ms) code r h n le k = cc
coded before Close (AtBody ms) code r h n le k = told (at_open (stands before _ _ Open h refl) r) k
coded before Comma (AtBody ms) code r h n le k = told (at_open (stands before _ _ Open h refl) r) k
coded before End (AtBody ms) code r h n le k = told (at_open (stands before _ _ Open h refl) r) k
coded before (Word w) (AtBody ms) code r h n le k = told (at_open (stands before _ _ Open h refl) r) k
coded before Open (AtRing b) code r h n le k = cc
coded before Close (AtRing b) code r h n le k = told (at_open (stands before _ _ Open h refl) r) k
coded before Comma (AtRing b) code r h n le k = told (at_open (stands before _ _ Open h refl) r) k
coded before End (AtRing b) code r h n le k = told (at_open (stands before _ _ Open h refl) r) k
coded before (Word w) (AtRing b) code r h n le k = told (at_open (stands before _ _ Open h refl) r) k
coded before Open (AtX b ps) code r h n le k = told (at_coordinate (x-stands before b ps h)) k
coded before Close (AtX b ps) code r h n le k = told (at_coordinate (x-stands before b ps h)) k
coded before Comma (AtX b ps) code r h n le k = told (at_coordinate (x-stands before b ps h)) k
coded before End (AtX b ps) code r h n le k = told (at_coordinate (x-stands before b ps h)) k
coded before (Word w) (AtX b ps) code r h n le k =
    let same : nat_le most_points (points_before b + length ps) ≡ (token_words before == most_words) = same-test (points_before b + length ps) (token_words before) (sym n) (omega arith) in
    let c : cond (nat_le most_points (points_before b + length ps)) TooManyPoints (number_code (number w)) ≡ code = limited-code _ w (AtY b ps) code k in
    let c2 : coordinate_code (token_words before) (Word w) ≡ code = ap (λ (v : Bool). cond v TooManyPoints (number_code (number w))) (sym same) ∙ c in
    subst (TableCode before (Word w)) c2 (at_coordinate (x-stands before b ps h))
coded before Open (AtY b ps x) code r h n le k = told (at_coordinate (y-stands before b ps x h)) k
coded before Close (AtY b ps x) code r h n le k = told (at_coordinate (y-stands before b ps x h)) k
coded before Comma (AtY b ps x) code r h n le k = told (at_coordinate (y-stands before b ps x h)) k
coded before End (AtY b ps x) code r h n le k = told (at_coordinate (y-stands before b ps x h)) k
coded before (Word w) (AtY b ps x) code r h n le k =
    let same : (token_words before == most_words) ≡ false = even-test (points_before b + length ps) (token_words before) (sym n) in
    let c : number_code (number w) ≡ code = number-code w (λ y. AfterPoint b (ps ++ point_of x y ∷ [])) code k in
    let c2 : coordinate_code (token_words before) (Word w) ≡ code = ap (λ (v : Bool). cond v TooManyPoints (number_code (number w))) same ∙ c in
    subst (TableCode before (Word w)) c2 (at_coordinate (y-stands before b ps x h))
coded before Open (AfterPoint b ps) code r h n le k = told (at_after_point ps r) k
coded before Close (AfterPoint b ps) code r h n le k = subst (TableCode before Close) (close-code (nat_lt (length ps) 4) (is_closed ps) (AfterRing (with_ring b ps)) code k) (at_after_point ps r)
coded before Comma (AfterPoint b ps) code r h n le k = cc
coded before End (AfterPoint b ps) code r h n le k = told (at_after_point ps r) k
coded before (Word w) (AfterPoint b ps) code r h n le k = told (at_after_point ps r) k
coded before Close (AfterRing b) code r h n le k = cc
coded before Comma (AfterRing b) code r h n le k = cc
coded before Close (AfterBody ms) code r h n le k = cc
coded before Comma (AfterBody ms) code r h n le k = cc
coded before End (AtEnd ms) code r h n le k = cc
coded before t (Finished ms) code r h n le k = told (at_past_end r) k
coded before _ _ code r h n le k = told (at_after_close r) k

-- a code with which the machine refuses a token is one that the table gives
pub table_code : (before : List Token) (t : Token) (s : ParserState) (code : WktCode) → limited_run AtKeyword before ≡ Ok s → limited_step s t ≡ Err code → TableCode before t code
table_code before t s code h k =
    let r = limited-run-ok before AtKeyword s (omega arith) h in
    let n : has_words s ≡ token_words before = words-run before AtKeyword s r.0 ∙ omega arith in
    coded before t s code (tail before s r.0) r.0 n (rw n (omega (arith, r.1))) k
