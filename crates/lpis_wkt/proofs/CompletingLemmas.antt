-- Each state that is reached has tokens that complete it, so each prefix that the machine takes begins a text of the
-- grammar.
use Rattle.std.proofs.Common.{◌≡◌, ℕ, ◌-◌, ◌<◌, Bool, true, false, cond, List, [], ◌∷◌, ◌++◌, length, pos, Some, Ok, refl, sym, subst, ◌∙◌, append_assoc, arith, length-append, codes, slice_get}
use Rattle.lpis_wkt.specs.Number.{number_within}
use Rattle.lpis_wkt.proofs.Common.{Point, Member, IsRing, Coordinate, Token, Open, Close, Comma, Word, End, number, coordinate_in_range, point_of, PointText, Commas, Context, ParserState, AtKeyword}
use Rattle.lpis_wkt.proofs.Common.{AfterKeyword}
use Rattle.lpis_wkt.proofs.Common.{AtBody, AtRing, AtX, AtY, AfterPoint, AfterRing, AfterBody, AtEnd, Finished, with_ring, close_body, open_text, member_of, parse_then, run}
use Rattle.std.proofs.lemmas.Int.{ints}
use Rattle.lpis_wkt.specs.Viable.{BeginsText}
use Rattle.lpis_wkt.proofs.PointLemmas.{coordinate-ok, ok-coordinate}
use Rattle.lpis_wkt.proofs.StepLemmas.{then-ok, run-append, Goes, goes, takes_keyword, opens_text, opens_body, opens_ring, takes_x, takes_y, closes_ring, next_point, closes_body, next_ring}
use Rattle.lpis_wkt.proofs.StepLemmas.{closes_text, next_body, finishes}
use Rattle.lpis_wkt.proofs.CompletenessLemmas.{points_run, ring_closes, reads_runs}
use Rattle.lpis_wkt.proofs.SoundnessLemmas.{runs_reads}

-- words that spell the point
abbrev Spells : Point → Type 0
Spells p = (x y : List ℕ) × (number x ≡ Ok p.x) × (number y ≡ Ok p.y)

abbrev FirstSpelled : List Point → Type 0
FirstSpelled [] = Unit {0}
FirstSpelled (p ∷ ps) = Spells p

abbrev Reached : ParserState → Type 0
Reached (AtX b ps) = FirstSpelled ps
Reached (AtY b ps x) = FirstSpelled ps × ((w : List ℕ) × (number w ≡ Ok x.value))
Reached (AfterPoint b ps) = FirstSpelled ps × (0 < length ps)
Reached _ = Unit {0}

first-push : (ps : List Point) (p : Point) → FirstSpelled ps → Spells p → FirstSpelled (ps ++ p ∷ [])
first-push [] p f h = h
first-push (q ∷ ps) p f h = f

some-push : (ps : List Point) (p : Point) → 0 < length (ps ++ p ∷ [])
some-push ps p = omega (arith, length-append ps (p ∷ []))

reached-open : (m : Bool) → Reached (open_text m)
reached-open true = tt
reached-open false = tt

reached-close-by : (m : Bool) (ms : List Member) → Reached (cond m (AfterBody ms) (AtEnd ms))
reached-close-by true ms = tt
reached-close-by false ms = tt

reached-close : (b : Context) → Reached (close_body b)
reached-close b = reached-close-by b.multi (b.members ++ member_of b.rings ∷ [])

reached-step : (s : ParserState) (t : Token) (s' : ParserState) → Goes s t s' → Reached s → Reached s'
reached-step s t s' (takes_keyword w m) r = tt
reached-step s t s' (opens_text m) r = reached-open m
reached-step s t s' (opens_body ms) r = tt
reached-step s t s' (opens_ring b) r = tt
reached-step s t s' (takes_x b ps w z e) r = (r, (w, ok-coordinate w z e))
reached-step s t s' (takes_y b ps v w z e) r = (first-push ps (point_of v z) r.0 (r.1.0, w, r.1.1, ok-coordinate w z e), some-push ps (point_of v z))
reached-step s t s' (closes_ring b ps) r = tt
reached-step s t s' (next_point b ps) r = r.0
reached-step s t s' (closes_body b) r = reached-close b
reached-step s t s' (next_ring b) r = tt
reached-step s t s' (closes_text ms) r = tt
reached-step s t s' (next_body ms) r = tt
reached-step s t s' (finishes ms) r = tt

reached-run : (ts : List Token) (s s' : ParserState) → run s ts ≡ Ok s' → Reached s → Reached s'
reached-run [] s s' h r = let e : s ≡ s' = cc in subst Reached e r
reached-run (t ∷ ts) s s' h r = let a = then-ok _ _ _ h in reached-run ts a.0 s' a.2 (reached-step s t a.0 (goes s t a.0 a.1) r)

abbrev Completes : ParserState → Type 0
Completes s = (rest : List Token) × (ps : List Member) × (run s rest ≡ Ok (Finished ps))

past : (p : Point) (ps : List Point) → slice_get (ps ++ p ∷ []) (length ps) ≡ Some p
past p [] = refl
past p (q ∷ ps) = past p ps

at_last : (p : Point) (ps : List Point) → slice_get (ps ++ p ∷ []) (length (ps ++ p ∷ []) - 1) ≡ Some p
at_last p ps =
    let n : length (ps ++ p ∷ []) - 1 ≡ length ps = omega (arith, length-append ps (p ∷ [])) in
    rw n (past p ps)

-- three more of the first point make a ring
closed_by_first : (p : Point) (ps : List Point) → IsRing ((p ∷ ps) ++ p ∷ p ∷ p ∷ [])
closed_by_first p ps = record {
  four = omega (arith, length-append ps (p ∷ p ∷ p ∷ []));
  closed = let e : (p ∷ ps) ++ p ∷ p ∷ p ∷ [] ≡ (p ∷ ps ++ p ∷ p ∷ []) ++ p ∷ [] = simp append_assoc in
      subst (λ (l : List Point). slice_get l (length l - 1) ≡ slice_get l 0) (sym e) (at_last p (p ∷ ps ++ p ∷ p ∷ []));
}

three : (p : Point) → Spells p → (ts : List Token) × Commas PointText (p ∷ p ∷ p ∷ []) ts
three p (x, y, hx, hy) =
    let one : List Token = Word x ∷ Word y ∷ [] in
    let text : PointText p (Word x ∷ Word y ∷ []) = (x, y, refl, hx, hy) in
    (one ++ Comma ∷ one ++ Comma ∷ one, (one, one ++ Comma ∷ one, text, refl, (one, one, text, refl, text)))

completes-close-by : (m : Bool) (ms : List Member) → Completes (cond m (AfterBody ms) (AtEnd ms))
completes-close-by true ms = (Close ∷ End ∷ [], ms, refl)
completes-close-by false ms = (End ∷ [], ms, refl)

completes-ring : (b : Context) → Completes (AfterRing b)
completes-ring b = let c = completes-close-by b.multi (b.members ++ member_of b.rings ∷ []) in (Close ∷ c.0, c.1, c.2)

completes-x : (b : Context) (p : Point) (ps : List Point) → Spells p → Completes (AtX b (p ∷ ps))
completes-x b p ps h =
    let body = three p h in
    let all : List Point = (p ∷ ps) ++ p ∷ p ∷ p ∷ [] in
    let c = completes-ring (with_ring b all) in
    (body.0 ++ Close ∷ c.0, c.1, points_run b (p ∷ ps) (p ∷ p ∷ p ∷ []) body.0 (Close ∷ c.0) body.1 ∙ ring_closes b all c.0 (closed_by_first p ps) ∙ c.2)

-- the coordinate 0
abbrev pub origin : Coordinate
origin = record { value = pos 0; in_range = (omega (arith, ints), omega (arith, ints)) }

zero-number : number (codes "0") ≡ Ok (pos 0)
unfolding number number_within
zero-number = refl

-- the word `0` spells the coordinate 0
pub zero_spelled : coordinate_in_range (codes "0") ≡ Ok origin
zero_spelled = coordinate-ok (codes "0") origin zero-number

completes-point : (b : Context) (ps : List Point) → FirstSpelled ps → 0 < length ps → Completes (AfterPoint b ps)
completes-point b [] f some = absurd (omega arith)
completes-point b (p ∷ ps) f some = let c = completes-x b p ps f in (Comma ∷ c.0, c.1, c.2)

completes-first-by : (b : Context) (w : List ℕ) (z : Coordinate) → coordinate_in_range w ≡ Ok z → Completes (AtX b [])
completes-first-by b w z h =
    let p : Point = point_of z z in
    let spelled : Spells p = (w, w, ok-coordinate w z h, ok-coordinate w z h) in
    let c = completes-point b (p ∷ []) spelled (omega arith) in
    (Word w ∷ Word w ∷ c.0, c.1, rw (h, h) c.2)

completes-first : (b : Context) → Completes (AtX b [])
completes-first b = completes-first-by b (codes "0") origin zero_spelled

completes-at_ring : (b : Context) → Completes (AtRing b)
completes-at_ring b = let c = completes-first b in (Open ∷ c.0, c.1, c.2)

completes-body : (ms : List Member) → Completes (AtBody ms)
completes-body ms = let c = completes-at_ring (record { multi = true; members = ms; rings = [] }) in (Open ∷ c.0, c.1, c.2)

completes-open : (m : Bool) → Completes (AfterKeyword m)
completes-open true = let c = completes-body [] in (Open ∷ c.0, c.1, c.2)
completes-open false = let c = completes-at_ring (record { multi = false; members = []; rings = [] }) in (Open ∷ c.0, c.1, c.2)

completes : (s : ParserState) → Reached s → Completes s
completes AtKeyword r = let c = completes-open false in (Word (codes "POLYGON") ∷ c.0, c.1, c.2)
completes (AfterKeyword m) r = completes-open m
completes (AtBody ms) r = completes-body ms
completes (AtRing b) r = completes-at_ring b
completes (AtX b []) r = completes-first b
completes (AtX b (p ∷ ps)) r = completes-x b p ps r
completes (AtY b ps x) r =
    let p : Point = point_of x x in
    let c = completes-point b (ps ++ p ∷ []) (first-push ps p r.0 (r.1.0, r.1.0, r.1.1, r.1.1)) (some-push ps p) in
    (Word r.1.0 ∷ c.0, c.1, rw (coordinate-ok r.1.0 x r.1.1) c.2)
completes (AfterPoint b ps) r = completes-point b ps r.0 r.1
completes (AfterRing b) r = completes-ring b
completes (AfterBody ms) r = (Close ∷ End ∷ [], ms, refl)
completes (AtEnd ms) r = (End ∷ [], ms, refl)
completes (Finished ms) r = ([], ms, refl)

-- a prefix begins a text of the grammar exactly where the machine takes it
pub taken_begins_text : (ts : List Token) (s : ParserState) → run AtKeyword ts ≡ Ok s → BeginsText ts
taken_begins_text ts s h =
    let c = completes s (reached-run ts AtKeyword s h tt) in
    let whole : run AtKeyword (ts ++ c.0) ≡ Ok (Finished c.1) = run-append AtKeyword ts c.0 ∙ rw h c.2 in
    (c.0, c.1, runs_reads (ts ++ c.0) c.1 whole)

-- the machine takes the tokens with which some text of the grammar begins
pub begun_is_taken : (ts : List Token) → BeginsText ts → (s : ParserState) × (run AtKeyword ts ≡ Ok s)
begun_is_taken ts (rest, ps, reads) =
    let whole : parse_then (run AtKeyword ts) (λ s. run s rest) ≡ Ok (Finished ps) = sym (run-append AtKeyword ts rest) ∙ reads_runs (ts ++ rest) ps reads in
    let a = then-ok _ _ _ whole in
    (a.0, a.1)
