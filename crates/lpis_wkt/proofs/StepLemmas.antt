-- What a step that is taken says.
use Rattle.std.proofs.Common.{◌≡◌, ℕ, ◌≤◌, Bool, true, false, cond, List, [], ◌∷◌, ◌++◌, length, Result, Ok, Err, refl, subst, inl, inr, ◌⊎◌, arith, nat_lt}
use Rattle.lpis_wkt.proofs.Common.{nat_tests, Point, IsRing, WktCode, Coordinate, Token, Open, Close, Comma, Word, End, coordinate_in_range, point_of, Member, is_polygon, is_multi, keyword_code}
use Rattle.lpis_wkt.proofs.Common.{Context}
use Rattle.lpis_wkt.proofs.Common.{ParserState, AtKeyword, AfterKeyword, AtBody, AtRing, AtX, AtY, AfterPoint, AfterRing, AfterBody, AtEnd, Finished, with_ring, close_body, close_ring, new_body}
use Rattle.lpis_wkt.proofs.Common.{open_text}
use Rattle.lpis_wkt.proofs.Common.{parse_step, parse_then, run, limited_step, limited_run}
use Rattle.lpis_wkt.specs.private.Machine.{with_coordinate, keyword}
use Rattle.lpis_wkt.proofs.PointLemmas.{is_closed-true}

-- where two steps in turn give a value, so does the first alone, and the second from the value of the first
pub then-ok : {A B E : Type 0} (r : Result A E) (f : A → Result B E) (z : B) → parse_then r f ≡ Ok z → (v : A) × (r ≡ Ok v) × (f v ≡ Ok z)
then-ok (Ok v) f z h = (v, refl, h)
then-ok (Err e) f z h = cc

-- where a result goes on to a state, it is a coordinate, and the state is the one of that coordinate
pub with_coordinate-ok : (r : Result Coordinate WktCode) (f : Coordinate → ParserState) (s : ParserState) → with_coordinate r f ≡ Ok s → (v : Coordinate) × (r ≡ Ok v) × (f v ≡ s)
with_coordinate-ok (Ok v) f s h = (v, refl, cc)
with_coordinate-ok (Err e) f s h = cc

cond-ok : {A : Type 0} (b : Bool) (x : A) (e : WktCode) (s : A) → cond b (Ok x) (Err e) ≡ Ok s → (b ≡ true) × (x ≡ s)
cond-ok true x e s h = (refl, cc)
cond-ok false x e s h = cc

-- where a value comes in spite of a test for an error, the test is false, and the value is that of the other branch
pub cond-err : {A : Type 0} (b : Bool) (e : WktCode) (r : Result A WktCode) (s : A) → cond b (Err e) r ≡ Ok s → (b ≡ false) × (r ≡ Ok s)
cond-err true e r s h = cc
cond-err false e r s h = (refl, h)

-- where a ring is closed, its points are a ring, and the state is the one after it
pub close_ring-ok : (b : Context) (ps : List Point) (s : ParserState) → close_ring b ps ≡ Ok s → IsRing ps × (AfterRing (with_ring b ps) ≡ s)
close_ring-ok b ps s h =
    let a = cond-err _ _ _ _ h in
    let c = cond-ok _ _ _ _ a.1 in
    let few : nat_lt (length ps) 4 ≡ false = a.0 in
    let four : 4 ≤ length ps = grind (arith, nat_tests) in
    (record { four = four; closed = is_closed-true ps c.0 }, c.1)

keyword-by : (p m : Bool) (f : WktCode) (s : ParserState) → cond p (Ok (AfterKeyword false)) (cond m (Ok (AfterKeyword true)) (Err f)) ≡ Ok s
    → ((p ≡ true) × (AfterKeyword false ≡ s)) ⊎ ((m ≡ true) × (AfterKeyword true ≡ s))
keyword-by true m f s h = inl (refl, cc)
keyword-by false true f s h = inr (refl, cc)
keyword-by false false f s h = cc

-- a word that is taken as a keyword is `POLYGON` or `MULTIPOLYGON`, and the state is the one after it
pub keyword-ok : (w : List ℕ) (s : ParserState) → keyword w ≡ Ok s → ((is_polygon w ≡ true) × (AfterKeyword false ≡ s)) ⊎ ((is_multi w ≡ true) × (AfterKeyword true ≡ s))
keyword-ok w s h = keyword-by (is_polygon w) (is_multi w) (keyword_code (Word w)) s h

-- the steps that the machine takes
pub data Goes : ParserState → Token → ParserState → Type 0 where
  takes_keyword : (w : List ℕ) (m : Bool) → Goes AtKeyword (Word w) (AfterKeyword m)
  opens_text : (m : Bool) → Goes (AfterKeyword m) Open (open_text m)
  opens_body : (ms : List Member) → Goes (AtBody ms) Open (new_body true ms)
  opens_ring : (b : Context) → Goes (AtRing b) Open (AtX b [])
  takes_x : (b : Context) (ps : List Point) (w : List ℕ) (z : Coordinate) → coordinate_in_range w ≡ Ok z → Goes (AtX b ps) (Word w) (AtY b ps z)
  takes_y : (b : Context) (ps : List Point) (v : Coordinate) (w : List ℕ) (z : Coordinate) → coordinate_in_range w ≡ Ok z → Goes (AtY b ps v) (Word w) (AfterPoint b (ps ++ point_of v z ∷ []))
  closes_ring : (b : Context) (ps : List Point) → Goes (AfterPoint b ps) Close (AfterRing (with_ring b ps))
  next_point : (b : Context) (ps : List Point) → Goes (AfterPoint b ps) Comma (AtX b ps)
  closes_body : (b : Context) → Goes (AfterRing b) Close (close_body b)
  next_ring : (b : Context) → Goes (AfterRing b) Comma (AtRing b)
  closes_text : (ms : List Member) → Goes (AfterBody ms) Close (AtEnd ms)
  next_body : (ms : List Member) → Goes (AfterBody ms) Comma (AtBody ms)
  finishes : (ms : List Member) → Goes (AtEnd ms) End (Finished ms)

-- a step that does not fail is one of those that the machine takes
pub goes : (s : ParserState) (t : Token) (s' : ParserState) → parse_step s t ≡ Ok s' → Goes s t s'
goes AtKeyword (Word w) s' h = elim (keyword-ok w s' h) [ inl e ↦ subst (Goes AtKeyword (Word w)) e.1 (takes_keyword w false) | inr e ↦ subst (Goes AtKeyword (Word w)) e.1 (takes_keyword w true) ]
goes (AfterKeyword m) Open s' h = subst (Goes (AfterKeyword m) Open) (cc h) (opens_text m)
goes (AtBody ms) Open s' h = subst (Goes (AtBody ms) Open) (cc h) (opens_body ms)
goes (AtRing b) Open s' h = subst (Goes (AtRing b) Open) (cc h) (opens_ring b)
goes (AtX b ps) (Word w) s' h = let n = with_coordinate-ok _ _ _ h in subst (Goes (AtX b ps) (Word w)) n.2 (takes_x b ps w n.0 n.1)
goes (AtY b ps x) (Word w) s' h = let n = with_coordinate-ok _ _ _ h in subst (Goes (AtY b ps x) (Word w)) n.2 (takes_y b ps x w n.0 n.1)
goes (AfterPoint b ps) Close s' h = subst (Goes (AfterPoint b ps) Close) (close_ring-ok b ps s' h).1 (closes_ring b ps)
goes (AfterPoint b ps) Comma s' h = subst (Goes (AfterPoint b ps) Comma) (cc h) (next_point b ps)
goes (AfterRing b) Close s' h = subst (Goes (AfterRing b) Close) (cc h) (closes_body b)
goes (AfterRing b) Comma s' h = subst (Goes (AfterRing b) Comma) (cc h) (next_ring b)
goes (AfterBody ms) Close s' h = subst (Goes (AfterBody ms) Close) (cc h) (closes_text ms)
goes (AfterBody ms) Comma s' h = subst (Goes (AfterBody ms) Comma) (cc h) (next_body ms)
goes (AtEnd ms) End s' h = subst (Goes (AtEnd ms) End) (cc h) (finishes ms)
goes _ _ s' h = cc

-- a run over tokens and more tokens is a run over the first, and then one over the others
pub run-append : (s : ParserState) (a b : List Token) → run s (a ++ b) ≡ parse_then (run s a) (λ s. run s b)
run-append s [] b = refl
run-append s (t ∷ a) b = elim (parse_step s t) as (λ r. parse_then r (λ s. run s (a ++ b)) ≡ parse_then (parse_then r (λ s. run s a)) (λ s. run s b)) [ Ok s' ↦ run-append s' a b | Err e ↦ refl ]

-- a run with the limit on points, over tokens and more tokens, is one over the first, and then one over the others
pub limited-append : (s : ParserState) (a b : List Token) → limited_run s (a ++ b) ≡ parse_then (limited_run s a) (λ s. limited_run s b)
limited-append s [] b = refl
limited-append s (t ∷ a) b = elim (limited_step s t) as (λ r. parse_then r (λ s. limited_run s (a ++ b)) ≡ parse_then
    (parse_then r (λ s. limited_run s a)) (λ s. limited_run s b)) [ Ok s' ↦ limited-append s' a b | Err e ↦ refl ]
