-- The table gives one code for one place.
use Rattle.std.proofs.Common.{◌≡◌, ℕ, ◌+◌, ◌<◌, ◌≤◌, Bool, true, false, cond, ◌==◌, List, [], ◌∷◌, ◌++◌, length, Result, Ok, Err, refl, sym, ap, ◌∙◌, arith, append-nil, nat_le, nat_lt, codes}
use Rattle.lpis_wkt.proofs.Common.{Point, Member, most_points, WktCode, Token, Open, Close, Comma, Word, End, number, point_of, PointText, Commas, is_polygon, is_multi, Viable, token_words}
use Rattle.lpis_wkt.proofs.Common.{most_words}
use Rattle.lpis_wkt.proofs.Common.{keyword_code, Context, ParserState, AtKeyword, AfterKeyword, AtBody, AtRing, AtX, AtY, AfterPoint, AfterRing, AfterBody, AtEnd, Finished, is_closed, with_ring}
use Rattle.lpis_wkt.proofs.Common.{new_body}
use Rattle.lpis_wkt.proofs.Common.{member_of, points_before, parse_then, parse_step, run, limited_step, limited_run}
use Rattle.lpis_wkt.specs.declared.fault.WktCode.TheVariants.{Syntax, TooManyPoints}
use Rattle.lpis_wkt.specs.Viable.{Stands}
use Rattle.lpis_wkt.specs.Table.{RingSoFar, EndsWith, open_code, first_open_code, number_code, coordinate_code, point_code, TableCode, at_keyword, at_first_open, at_open, at_coordinate}
use Rattle.lpis_wkt.specs.Table.{at_after_point, at_after_close, at_past_end}
use Rattle.lpis_wkt.proofs.StepLemmas.{then-ok, run-append, limited-append, Goes, goes, opens_text, opens_body, opens_ring, closes_ring, closes_body, closes_text, finishes}
use Rattle.lpis_wkt.proofs.CompletenessLemmas.{points_run}
use Rattle.lpis_wkt.proofs.CompletingLemmas.{begun_is_taken}
use Rattle.lpis_wkt.proofs.CountingLemmas.{has_words, taken_is_viable, viable_is_taken, words-run, limited-run-ok}
use Rattle.lpis_wkt.proofs.TailLemmas.{Tail, tail}
use Rattle.lpis_wkt.proofs.RowLemmas.{keyword-code, limited-code, number-code, close-code, same-test, even-test}

-- a token that can stand is taken
stood : (before : List Token) (s : ParserState) (t : Token) → run AtKeyword before ≡ Ok s → Stands before t → (s' : ParserState) × (parse_step s t ≡ Ok s')
stood before s t h stands =
    let b = begun_is_taken (before ++ t ∷ []) stands in
    let whole : parse_then (run AtKeyword before) (λ s. run s (t ∷ [])) ≡ Ok b.0 = sym (run-append AtKeyword before (t ∷ [])) ∙ b.1 in
    let here : run s (t ∷ []) ≡ Ok b.0 = rw h at whole in
    let a = then-ok _ _ _ here in
    (a.0, a.1)

keyword-only : (t : Token) (c : WktCode) → limited_step AtKeyword t ≡ Err c → keyword_code t ≡ c
keyword-only (Word w) c h = keyword-code (is_polygon w) (is_multi w) (keyword_code (Word w)) c h
keyword-only _ c h = cc

first_open-only : (s s' : ParserState) (before : List Token) (t : Token) (c : WktCode) → Goes s Open s' → Tail s before → length before ≡ 1 → limited_step s t ≡ Err c → first_open_code t ≡ c
first_open-only s s' before Open c (opens_text m) r one h = cc
first_open-only s s' before Close c (opens_text m) r one h = cc
first_open-only s s' before Comma c (opens_text m) r one h = cc
first_open-only s s' before End c (opens_text m) r one h = cc
first_open-only s s' before (Word w) c (opens_text m) r one h = cc
first_open-only s s' before t c (opens_body ms) r one h = absurd (omega arith)
first_open-only s s' before t c (opens_ring b) r one h = absurd (omega arith)

open-only : (s s' : ParserState) (before : List Token) (t : Token) (c : WktCode) → Goes s Open s' → Tail s before → 1 < length before → limited_step s t ≡ Err c → open_code t ≡ c
open-only s s' before t c (opens_text m) r more h = absurd (omega arith)
open-only s s' before Open c (opens_body ms) r more h = cc
open-only s s' before Close c (opens_body ms) r more h = cc
open-only s s' before Comma c (opens_body ms) r more h = cc
open-only s s' before End c (opens_body ms) r more h = cc
open-only s s' before (Word w) c (opens_body ms) r more h = cc
open-only s s' before Open c (opens_ring b) r more h = cc
open-only s s' before Close c (opens_ring b) r more h = cc
open-only s s' before Comma c (opens_ring b) r more h = cc
open-only s s' before End c (opens_ring b) r more h = cc
open-only s s' before (Word w) c (opens_ring b) r more h = cc

coordinate-only : (s s' : ParserState) (n : ℕ) (t : Token) (c : WktCode) → parse_step s (Word (codes "0")) ≡ Ok s'
    → has_words s ≡ n → n ≤ most_words → limited_step s t ≡ Err c → coordinate_code n t ≡ c
coordinate-only (AtX b ps) s' n (Word w) c k token_words few h =
    let same : nat_le most_points (points_before b + length ps) ≡ (n == most_words) = same-test (points_before b + length ps) n (sym token_words) (omega arith) in
    ap (λ (v : Bool). cond v TooManyPoints (number_code (number w))) (sym same) ∙ limited-code _ w (AtY b ps) c h
coordinate-only (AtY b ps x) s' n (Word w) c k token_words few h =
    let same : (n == most_words) ≡ false = even-test (points_before b + length ps) n (sym token_words) in
    ap (λ (v : Bool). cond v TooManyPoints (number_code (number w))) same ∙ number-code w (λ y. AfterPoint b (ps ++ point_of x y ∷ [])) c h
coordinate-only _ s' n _ c k token_words few h = cc

begins_with_word : (ps : List Point) (body : List Token) → Commas PointText ps body → (w : List ℕ) × (rest : List Token) × (body ≡ Word w ∷ rest)
begins_with_word [] body h = absurd h
begins_with_word (p ∷ []) body (x, y, e, hx, hy) = (x, Word y ∷ [], e)
begins_with_word (p ∷ q ∷ ps) body (front, back, (x, y, e, hx, hy), split, more) = (x, Word y ∷ Comma ∷ back, split ∙ ap (λ (l : List Token). l ++ Comma ∷ back) e)

-- after the `(` of a ring and some points
after_open : (s0 s1 s : ParserState) (ps : List Point) (body : List Token) → Goes s0 Open s1 → Commas PointText ps body → run s1 body ≡ Ok s → (b : Context) × (s ≡ AfterPoint b ps)
after_open s0 s1 s ps body (opens_text true) text h =
    let (w, rest, e) = begins_with_word ps body text in
    let no : run (AtBody []) (Word w ∷ rest) ≡ Ok s = rw e at h in
    cc
after_open s0 s1 s ps body (opens_text false) text h =
    let (w, rest, e) = begins_with_word ps body text in
    let no : run (new_body false []) (Word w ∷ rest) ≡ Ok s = rw e at h in
    cc
after_open s0 s1 s ps body (opens_body ms) text h =
    let (w, rest, e) = begins_with_word ps body text in
    let no : run (new_body true ms) (Word w ∷ rest) ≡ Ok s = rw e at h in
    cc
after_open s0 s1 s ps body (opens_ring b) text h =
    let goes_on : run (AtX b []) body ≡ Ok (AfterPoint b ps) = ap (run (AtX b [])) (sym (append-nil body)) ∙ points_run b [] ps body [] text in
    (b, cc)

point-only : (b : Context) (ps : List Point) (t : Token) (c : WktCode) → limited_step (AfterPoint b ps) t ≡ Err c → point_code ps t ≡ c
point-only b ps Close c h = close-code (nat_lt (length ps) 4) (is_closed ps) (AfterRing (with_ring b ps)) c h
point-only b ps _ c h = cc

ring-code : (before : List Token) (s : ParserState) (ps : List Point) (t : Token) (c : WktCode) → RingSoFar before ps → run AtKeyword before ≡ Ok s → limited_step s t ≡ Err c → point_code ps t ≡ c
ring-code before s ps t c (front, body, e, text) h k =
    let whole : parse_then (run AtKeyword front) (λ s. run s (Open ∷ body)) ≡ Ok s = sym (run-append AtKeyword front (Open ∷ body)) ∙ ap (run AtKeyword) (sym e) ∙ h in
    let a = then-ok (run AtKeyword front) (λ (v : ParserState). run v (Open ∷ body)) s whole in
    let o = then-ok (parse_step a.0 Open) (λ (v : ParserState). run v body) s a.2 in
    let r = after_open a.0 o.0 s ps body (goes a.0 Open o.0 o.1) text o.2 in
    point-only r.0 ps t c (rw r.1 at k)

abbrev IsAfterClose : ParserState → Type 0
IsAfterClose (AfterRing b) = Unit {0}
IsAfterClose (AfterBody ms) = Unit {0}
IsAfterClose (AtEnd ms) = Unit {0}
IsAfterClose _ = ⊥

after_body : (m : Bool) (ms : List Member) → IsAfterClose (cond m (AfterBody ms) (AtEnd ms))
after_body true ms = tt
after_body false ms = tt

after_close : (s0 s : ParserState) → Goes s0 Close s → IsAfterClose s
after_close s0 s (closes_ring b ps) = tt
after_close s0 s (closes_body b) = after_body b.multi (b.members ++ member_of b.rings ∷ [])
after_close s0 s (closes_text ms) = tt

close-only : (s : ParserState) (t : Token) (c : WktCode) → IsAfterClose s → limited_step s t ≡ Err c → Syntax ≡ c
close-only AtKeyword t c is h = absurd is
close-only (AfterKeyword m) t c is h = absurd is
close-only (AtBody ms) t c is h = absurd is
close-only (AtRing b) t c is h = absurd is
close-only (AtX b ps) t c is h = absurd is
close-only (AtY b ps x) t c is h = absurd is
close-only (AfterPoint b ps) t c is h = absurd is
close-only (AfterRing b) (Word w) c is h = cc
close-only (AfterBody ms) (Word w) c is h = cc
close-only (AtEnd ms) (Word w) c is h = cc
close-only (Finished ms) t c is h = absurd is
close-only _ _ c is h = cc

ended : (s0 s : ParserState) → Goes s0 End s → (ms : List Member) × (s ≡ Finished ms)
ended s0 s (finishes ms) = (ms, refl)

-- a step that takes the end of the text finishes
pub after_end : (s0 s : ParserState) → parse_step s0 End ≡ Ok s → (ms : List Member) × (s ≡ Finished ms)
after_end s0 s h = ended s0 s (goes s0 End s h)

-- the step that took the last of the tokens before
last_step : (before : List Token) (s : ParserState) (t : Token) → EndsWith before t → run AtKeyword before ≡ Ok s → (s0 : ParserState) × (parse_step s0 t ≡ Ok s)
last_step before s t (front, e) h =
    let whole : parse_then (run AtKeyword front) (λ s. run s (t ∷ [])) ≡ Ok s = sym (run-append AtKeyword front (t ∷ [])) ∙ ap (run AtKeyword) (sym e) ∙ h in
    let a = then-ok (run AtKeyword front) (λ (v : ParserState). run v (t ∷ [])) s whole in
    let o = then-ok (parse_step a.0 t) (λ (v : ParserState). run v []) s a.2 in
    let same : Ok o.0 ≡ Ok s = o.2 in
    (a.0, o.1 ∙ same)

past_end-only : (s : ParserState) (t : Token) (c : WktCode) (ms : List Member) → s ≡ Finished ms → limited_step s t ≡ Err c → Syntax ≡ c
past_end-only s t c ms e h = let k : limited_step (Finished ms) t ≡ Err c = rw e at h in cc

-- the code of a row is that of the machine's step
row-only : (before : List Token) (t : Token) (code c : WktCode) (s : ParserState) → TableCode before t code → Tail s before
    → run AtKeyword before ≡ Ok s → has_words s ≡ token_words before → token_words before ≤ most_words
    → limited_step s t ≡ Err c → code ≡ c
row-only before t code c s at_keyword r h n few k = let e : AtKeyword ≡ s = cc in keyword-only t c (rw (← e) at k)
row-only before t code c s (at_first_open stands one) r h n few k = let o = stood before s Open h stands in first_open-only s o.0 before t c (goes s Open o.0 o.1) r one k
row-only before t code c s (at_open stands more) r h n few k = let o = stood before s Open h stands in open-only s o.0 before t c (goes s Open o.0 o.1) r more k
row-only before t code c s (at_coordinate stands) r h n few k = let o = stood before s (Word (codes "0")) h stands in coordinate-only s o.0 (token_words before) t c o.1 n few k
row-only before t code c s (at_after_point ps ring) r h n few k = ring-code before s ps t c ring h k
row-only before t code c s (at_after_close ends) r h n few k = let o = last_step before s Close ends h in close-only s t c (after_close o.0 s (goes o.0 Close s o.1)) k
row-only before t code c s (at_past_end ends) r h n few k = let o = last_step before s End ends h in let e = after_end o.0 s o.1 in past_end-only s t c e.0 e.1 k

-- each code that the table gives for a token is the one with which the machine refuses it
pub only_code : (before : List Token) (t : Token) (code c : WktCode) (s : ParserState) → TableCode before t code → limited_run AtKeyword before ≡ Ok s → limited_step s t ≡ Err c → code ≡ c
only_code before t code c s row h k =
    let r = limited-run-ok before AtKeyword s (omega arith) h in
    let n : has_words s ≡ token_words before = words-run before AtKeyword s r.0 ∙ omega arith in
    row-only before t code c s row (tail before s r.0) r.0 n (omega (arith, r.1)) k

refused : (before : List Token) (t : Token) (s : ParserState) (r : Result ParserState WktCode) → limited_step s t ≡ r
    → limited_run AtKeyword before ≡ Ok s → (Viable (before ++ t ∷ []) → ⊥) → (c : WktCode) × (limited_step s t ≡ Err c)
refused before t s (Ok s') e h cannot =
    let goes : limited_run AtKeyword (before ++ t ∷ []) ≡ Ok s' = limited-append AtKeyword before (t ∷ []) ∙ rw (h, e) refl in
    absurd (cannot (taken_is_viable (before ++ t ∷ []) s' goes))
refused before t s (Err c) e h cannot = (c, e)

-- where the tokens before are viable and this token cannot stand, the machine stops
pub machine_stops : (before : List Token) (t : Token) → Viable before → (Viable (before ++ t ∷ []) → ⊥)
    → (s : ParserState) × (c : WktCode) × (limited_run AtKeyword before ≡ Ok s) × (limited_step s t ≡ Err c)
machine_stops before t v cannot =
    let (s, h) = viable_is_taken before v in
    let (c, k) = refused before t s (limited_step s t) refl h cannot in
    (s, c, h, k)

-- the table gives one code for a token that cannot stand after viable ones
pub one_code : (before : List Token) (t : Token) (code code' : WktCode) → Viable before → (Viable (before ++ t ∷ []) → ⊥) → TableCode before t code → TableCode before t code' → code ≡ code'
one_code before t code code' v cannot row row' =
    let (s, c, h, k) = machine_stops before t v cannot in
    only_code before t code c s row h k ∙ sym (only_code before t code' c s row' h k)
