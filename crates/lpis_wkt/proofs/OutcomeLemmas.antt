-- The outcome of a text is its polygon, or its first fault.
use Rattle.std.proofs.Common.{MatchResult, IfOk, IfErr, ◌≡◌, ℕ, List, [], ◌∷◌, ◌++◌, Result, Ok, Err, refl, sym, ap, ◌∙◌, inl, inr, ◌⊎◌, length}
use Rattle.lpis_wkt.proofs.Common.{Member, WktCode, Token, End, tokens_from, Viable, ParserState, AtKeyword, Finished, parse_then, limited_step, limited_run}
use Rattle.lpis_wkt.specs.declared.fault.WktFault.{WktFault}
use Rattle.lpis_wkt.specs.declared.fault.WktFault.TheVariants.{Memory, At}
use Rattle.lpis_wkt.specs.Tokens.{kinds, tokens}
use Rattle.lpis_wkt.specs.Table.{FirstFault}
use Rattle.lpis_wkt.specs.Text.{PolygonText, TextFault, IsTextFault}
use Rattle.lpis_wkt.specs.Answer.{polygon_of, Gives}
use Rattle.lpis_wkt.specs.private.Machine.{members_of, parse_answer, located, parse_outcome}
use Rattle.lpis_wkt.specs.private.Parsing.{IsOutcome}
use Rattle.lpis_wkt.proofs.StepLemmas.{then-ok, limited-append, cond-err}
use Rattle.lpis_wkt.proofs.CountingLemmas.{taken_is_viable, viable_is_taken, finished_is_accepted, accepted_is_finished}
use Rattle.lpis_wkt.proofs.RowLemmas.{table_code}
use Rattle.lpis_wkt.proofs.OneCodeLemmas.{only_code, machine_stops, after_end}

located-ok : (r : Result ParserState WktCode) (at : ℕ) (s : ParserState) → located r at ≡ Ok s → r ≡ Ok s
located-ok (Ok v) at s h = cc
located-ok (Err e) at s h = cc

outcome-ok : (ts : List (ℕ × Token)) (s s' : ParserState) → parse_outcome s ts ≡ Ok s' → limited_run s (kinds ts) ≡ Ok s'
outcome-ok [] s s' h = cc
outcome-ok (t ∷ ts) s s' h =
    let a = then-ok _ _ _ h in
    let step : limited_step s t.1 ≡ Ok a.0 = located-ok _ t.0 a.0 a.1 in
    rw step (outcome-ok ts a.0 s' a.2)

ok-outcome : (ts : List (ℕ × Token)) (s s' : ParserState) → limited_run s (kinds ts) ≡ Ok s' → parse_outcome s ts ≡ Ok s'
ok-outcome [] s s' h = cc
ok-outcome (t ∷ ts) s s' h =
    let a = then-ok _ _ _ h in
    let step : limited_step s t.1 ≡ Ok a.0 = a.1 in
    rw step (ok-outcome ts a.0 s' a.2)

-- where a run stops
abbrev Stops : ParserState → List (ℕ × Token) → WktCode → ℕ → Type 0
Stops s ts code offset = (before : List (ℕ × Token)) × (t : Token) × (after : List (ℕ × Token)) × (s' : ParserState)
    × (ts ≡ before ++ (offset, t) ∷ after) × (limited_run s (kinds before) ≡ Ok s') × (limited_step s' t ≡ Err code)

stops_by : (s : ParserState) (at : ℕ) (t : Token) (ts : List (ℕ × Token)) (code : WktCode) (offset : ℕ) (r : Result ParserState WktCode) → limited_step s t ≡ r
    → parse_then (located r at) (λ s. parse_outcome s ts) ≡ Err (code, offset) → ((s2 : ParserState) → parse_outcome s2 ts ≡ Err (code, offset) → Stops s2 ts code offset)
    → Stops s ((at, t) ∷ ts) code offset
stops_by s at t ts code offset (Ok s2) e h rest =
    let (before, u, after, s3, split, runs, fails) = rest s2 h in
    ((at, t) ∷ before, u, after, s3, ap (λ (l : List (ℕ × Token)). (at, t) ∷ l) split, rw e runs, fails)
stops_by s at t ts code offset (Err c) e h rest =
    let x : WktCode × ℕ = (c, at) in
    let y : WktCode × ℕ = (code, offset) in
    let pair : x ≡ y = cc in
    let same_code : c ≡ code = ap (λ (p : WktCode × ℕ). p.0) pair in
    let same_at : at ≡ offset = ap (λ (p : WktCode × ℕ). p.1) pair in
    ([], t, ts, s, ap (λ (n : ℕ). (n, t) ∷ ts) same_at, refl, e ∙ ap Err same_code)

stops : (ts : List (ℕ × Token)) (s : ParserState) (code : WktCode) (offset : ℕ) → parse_outcome s ts ≡ Err (code, offset) → Stops s ts code offset
stops [] s code offset h = cc
stops ((at, t) ∷ ts) s code offset h = stops_by s at t ts code offset (limited_step s t) refl h (λ s2 k. stops ts s2 code offset k)

not_viable : (before : List Token) (t : Token) (s : ParserState) (code : WktCode) → limited_run AtKeyword before ≡ Ok s → limited_step s t ≡ Err code → Viable (before ++ t ∷ []) → ⊥
not_viable before t s code runs fails v =
    let (s2, h) = viable_is_taken (before ++ t ∷ []) v in
    let e : limited_run AtKeyword (before ++ t ∷ []) ≡ Err code = limited-append AtKeyword before (t ∷ []) ∙ rw (runs, fails) refl in
    cc

-- the code and the offset with which the machine stops are the first fault of the tokens
pub first_fault : (ts : List (ℕ × Token)) (code : WktCode) (offset : ℕ) → parse_outcome AtKeyword ts ≡ Err (code, offset) → FirstFault ts code offset
first_fault ts code offset h =
    let (before, t, after, s, split, runs, fails) = stops ts AtKeyword code offset h in
    (before, t, after, split, taken_is_viable (kinds before) s runs, not_viable (kinds before) t s code runs fails, table_code (kinds before) t s code runs fails)

-- the other way round
outcome-append : (s : ParserState) (a b : List (ℕ × Token)) → parse_outcome s (a ++ b) ≡ parse_then (parse_outcome s a) (λ s. parse_outcome s b)
outcome-append s [] b = refl
outcome-append s (t ∷ a) b = elim (located (limited_step s t.1) t.0) as
    (λ r. parse_then r (λ s. parse_outcome s (a ++ b)) ≡ parse_then (parse_then r (λ s. parse_outcome s a)) (λ s. parse_outcome s b))
    [ Ok s' ↦ outcome-append s' a b | Err e ↦ refl ]

fault_outcome : (ts : List (ℕ × Token)) (code : WktCode) (offset : ℕ) → FirstFault ts code offset → parse_outcome AtKeyword ts ≡ Err (code, offset)
fault_outcome ts code offset (before, t, after, split, v, cannot, row) =
    let (s, c, h, k) = machine_stops (kinds before) t v cannot in
    let same : code ≡ c = only_code (kinds before) t code c s row h k in
    let reached : parse_outcome AtKeyword before ≡ Ok s = ok-outcome before AtKeyword s h in
    let step : limited_step s t ≡ Err code = k ∙ ap Err (sym same) in
    ap (parse_outcome AtKeyword) split ∙ outcome-append AtKeyword before ((offset, t) ∷ after) ∙ rw (reached, step) refl

-- where the end was taken, the text is finished
finished_end : (before : List (ℕ × Token)) (n : ℕ) (s : ParserState) → parse_outcome AtKeyword (before ++ (n, End) ∷ []) ≡ Ok s → (ms : List Member) × (s ≡ Finished ms)
finished_end before n s h =
    let whole : parse_then (parse_outcome AtKeyword before) (λ s. parse_outcome s ((n, End) ∷ [])) ≡ Ok s = sym (outcome-append AtKeyword before ((n, End) ∷ [])) ∙ h in
    let a = then-ok (parse_outcome AtKeyword before) (λ (v : ParserState). parse_outcome v ((n, End) ∷ [])) s whole in
    let o = then-ok (located (limited_step a.0 End) n) (λ (v : ParserState). parse_outcome v []) s a.2 in
    let step = cond-err _ _ _ _ (located-ok _ n o.0 o.1) in
    let e = after_end a.0 o.0 step.1 in
    let same : Ok o.0 ≡ Ok s = o.2 in
    let k : o.0 ≡ s = cc in
    (e.0, sym k ∙ e.1)

answer-ok : (r : Result ParserState (WktCode × ℕ)) (ms : List Member) → parse_answer r ≡ Ok ms → (s : ParserState) × (r ≡ Ok s) × (members_of s ≡ ms)
answer-ok (Ok s) ms h = (s, refl, cc)
answer-ok (Err e) ms h = cc

answer-err : (r : Result ParserState (WktCode × ℕ)) (e : WktCode × ℕ) → parse_answer r ≡ Err e → r ≡ Err e
answer-err (Ok s) e h = cc
answer-err (Err f) e h = cc

finished_text : (before : List (ℕ × Token)) (n : ℕ) (ms : List Member)
    → parse_answer (parse_outcome AtKeyword (before ++ (n, End) ∷ [])) ≡ Ok ms → parse_outcome AtKeyword (before ++ (n, End) ∷ []) ≡ Ok
    (Finished ms)
finished_text before n ms h =
    let (s, e, is) = answer-ok (parse_outcome AtKeyword (before ++ (n, End) ∷ [])) ms h in
    let (ms', f) = finished_end before n s e in
    let same : ms' ≡ ms = ap members_of (sym f) ∙ is in
    e ∙ ap Ok (f ∙ ap Finished same)

-- where a text spells a polygon, the function of texts gives its members
pub polygon-answer : (text : List ℕ) (ms : List Member) → PolygonText text ms → polygon_of text ≡ Ok ms
unfolding PolygonText polygon_of
polygon-answer text ms h = rw (ok-outcome (tokens text) AtKeyword (Finished ms) (accepted_is_finished (kinds (tokens text)) ms h)) refl

-- where the function of texts gives members, the text spells their polygon
pub answer-polygon : (text : List ℕ) (ms : List Member) → polygon_of text ≡ Ok ms → PolygonText text ms
unfolding PolygonText polygon_of
answer-polygon text ms h = finished_is_accepted (kinds (tokens text)) ms (outcome-ok (tokens text) AtKeyword (Finished ms) (finished_text (tokens_from 0 text) (length text) ms h))

-- where a text has a first fault, the function of texts gives its code and its offset
pub fault-answer : (text : List ℕ) (code : WktCode) (offset : ℕ) → TextFault text code offset → polygon_of text ≡ Err (code, offset)
unfolding TextFault polygon_of
fault-answer text code offset h = ap parse_answer (fault_outcome (tokens text) code offset h)

-- where the function of texts gives a code and an offset, they are the first fault of the text
pub answer-fault : (text : List ℕ) (code : WktCode) (offset : ℕ) → polygon_of text ≡ Err (code, offset) → TextFault text code offset
unfolding TextFault polygon_of
answer-fault text code offset h = first_fault (tokens text) code offset (answer-err (parse_outcome AtKeyword (tokens text)) (code, offset) h)

answered : (text : List ℕ) (r : Result (List Member) (WktCode × ℕ)) → polygon_of text ≡ r → ((ms : List Member) × PolygonText text ms) ⊎ ((code : WktCode) × (offset : ℕ) × TextFault text code offset)
answered text (Ok ms) h = inl (ms, answer-polygon text ms h)
answered text (Err (code, offset)) h = inr (code, offset, answer-fault text code offset h)

-- each text spells a polygon or has a first fault
pub some_answer : (text : List ℕ) → ((ms : List Member) × PolygonText text ms) ⊎ ((code : WktCode) × (offset : ℕ) × TextFault text code offset)
some_answer text = answered text (polygon_of text) refl

-- a text spells no two polygons
pub one_polygon : (text : List ℕ) (ms ms' : List Member) → PolygonText text ms → PolygonText text ms' → ms ≡ ms'
one_polygon text ms ms' h k = let e = polygon-answer text ms h in let f = polygon-answer text ms' k in cc

pair-same : {A B : Type 0} (p q : A × B) → p ≡ q → (p.0 ≡ q.0) × (p.1 ≡ q.1)
pair-same {A} {B} p q e = (ap (λ (r : A × B). r.0) e, ap (λ (r : A × B). r.1) e)

-- a text has no two first faults: their codes and their offsets are equal
pub one_fault : (text : List ℕ) (code code' : WktCode) (offset offset' : ℕ) → TextFault text code offset → TextFault text code' offset' → (code ≡ code') × (offset ≡ offset')
one_fault text code code' offset offset' h k =
    let e = fault-answer text code offset h in
    let f = fault-answer text code' offset' k in
    let x : WktCode × ℕ = (code, offset) in
    let y : WktCode × ℕ = (code', offset') in
    let both : x ≡ y = cc in
    pair-same x y both

-- no text spells a polygon and has a first fault
pub never_both : (text : List ℕ) (ms : List Member) (code : WktCode) (offset : ℕ) → PolygonText text ms → TextFault text code offset → ⊥
never_both text ms code offset h k = let e = polygon-answer text ms h in let f = fault-answer text code offset k in cc

-- what the parser answers is what the text says
pub gives : (text : List ℕ) (r : Result (List Member) WktFault) → IsOutcome r (parse_outcome AtKeyword (tokens text)) → Gives r (polygon_of text)
unfolding polygon_of
gives text (Err Memory) h = tt
gives text _ h = rw h refl

-- members that a call answers are spelled by the text, where it answers what the text says
pub is_polygon_text : (text : List ℕ) (r : Result (List Member) WktFault) → Gives r (polygon_of text) → IfOk r (λ ms. PolygonText text ms)
is_polygon_text text (Ok ms) h = answer-polygon text ms h
is_polygon_text text (Err e) h = tt

-- where the text spells members, a call that answers what the text says answers them, or that memory ran out
pub is_only : (text : List ℕ) (r : Result (List Member) WktFault) → Gives r (polygon_of text) → (ms : List Member) → PolygonText text ms → MatchResult r (λ qs. qs ≡ ms) (λ e. e ≡ Memory)
is_only text (Ok qs) h ms k = one_polygon text qs ms (answer-polygon text qs h) k
is_only text (Err Memory) h ms k = refl
is_only text (Err (At code offset)) h ms k = absurd (never_both text ms code offset k (answer-fault text code offset h))

-- a fault of a call that answers what the text says is the first of the text, or that memory ran out
pub is_fault : (text : List ℕ) (r : Result (List Member) WktFault) → Gives r (polygon_of text) → IfErr r (λ e. IsTextFault text e)
is_fault text (Err (At code offset)) h = answer-fault text code offset h
is_fault _ _ _ = tt
