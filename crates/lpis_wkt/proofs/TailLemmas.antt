-- How the tokens before each state end.
use Rattle.std.proofs.Common.{◌≡◌, ℕ, suc, ◌<◌, Bool, true, false, cond, List, [], ◌∷◌, ◌++◌, length, Ok, refl, sym, ap, subst, append_assoc, arith, length-append, append-nil}
use Rattle.lpis_wkt.proofs.Common.{Point, Member, Token, Open, Close, Comma, Word, End, number, point_of, PointText, Commas, ParserState, AtKeyword, AfterKeyword, AtBody, AtRing, AtX, AtY, AfterPoint}
use Rattle.lpis_wkt.proofs.Common.{AfterBody, AtEnd, Finished, open_text, member_of, run}
use Rattle.lpis_wkt.specs.Table.{RingSoFar, EndsWith}
use Rattle.lpis_wkt.proofs.PointLemmas.{ok-coordinate}
use Rattle.lpis_wkt.proofs.StepLemmas.{then-ok, Goes, goes, takes_keyword, opens_text, opens_body, opens_ring, takes_x, takes_y, closes_ring, next_point, closes_body, next_ring, closes_text}
use Rattle.lpis_wkt.proofs.StepLemmas.{next_body, finishes}

-- the points of a ring before an x
abbrev pub Pending : List Point → List Token → Type 0
Pending [] body = body ≡ []
Pending (p ∷ ps) body = (text : List Token) × (body ≡ text ++ Comma ∷ []) × Commas PointText (p ∷ ps) text

-- how the tokens before a state end
abbrev pub Tail : ParserState → List Token → Type 0
Tail (AtX b ps) before = (front body : List Token) × (before ≡ front ++ Open ∷ body) × Pending ps body
Tail (AtY b ps x) before = (front body : List Token) × (w : List ℕ) × (before ≡ front ++ Open ∷ body ++ Word w ∷ []) × (number w ≡ Ok x.value) × Pending ps body
Tail (AfterPoint b ps) before = RingSoFar before ps
Tail AtKeyword before = before ≡ []
Tail (AfterKeyword m) before = length before ≡ 1
Tail (AtBody ms) before = 1 < length before
Tail (AtRing b) before = 1 < length before
Tail (Finished ms) before = EndsWith before End
Tail _ before = EndsWith before Close

commas-snoc : (ps : List Point) (p : Point) (text f : List Token) → Commas PointText ps text → PointText p f → Commas PointText (ps ++ p ∷ []) (text ++ Comma ∷ f)
commas-snoc [] p text f h k = absurd h
commas-snoc (q ∷ []) p text f h k = (text, f, h, refl, k)
commas-snoc (q ∷ r ∷ ps) p text f (front, back, h, e, t) k = (front, back ++ Comma ∷ f, h, rw e (simp append_assoc), commas-snoc (r ∷ ps) p back f t k)

pending-point : (ps : List Point) (p : Point) (body f : List Token) → Pending ps body → PointText p f → Commas PointText (ps ++ p ∷ []) (body ++ f)
pending-point [] p body f h k = rw h k
pending-point (q ∷ ps) p body f (text, e, t) k =
    let same : body ++ f ≡ text ++ Comma ∷ f = rw e (simp append_assoc) in
    subst (Commas PointText (q ∷ ps ++ p ∷ [])) (sym same) (commas-snoc (q ∷ ps) p text f t k)

pending : (ps : List Point) (body : List Token) → Commas PointText ps body → Pending ps (body ++ Comma ∷ [])
pending [] body h = absurd h
pending (p ∷ ps) body h = (body, refl, h)

longer : (before : List Token) (t : Token) → length (before ++ t ∷ []) ≡ suc (length before)
longer before t = omega (arith, length-append before (t ∷ []))

tail-open : (m : Bool) (before : List Token) → length before ≡ 1 → Tail (open_text m) (before ++ Open ∷ [])
tail-open true before h = omega (arith, longer before Open)
tail-open false before h = omega (arith, longer before Open)

after-close : (before : List Token) (t : Token) → EndsWith before Close → 1 < length (before ++ t ∷ [])
after-close before t (front, e) = omega (arith, longer before t, ap length e, longer front Close)

tail-close : (m : Bool) (ms : List Member) (before : List Token) → Tail (cond m (AfterBody ms) (AtEnd ms)) (before ++ Close ∷ [])
tail-close true ms before = (before, refl)
tail-close false ms before = (before, refl)

tail-step : (s : ParserState) (t : Token) (s' : ParserState) (before : List Token) → Goes s t s' → Tail s before → Tail s' (before ++ t ∷ [])
tail-step s t s' before (takes_keyword w m) r = rw r refl
tail-step s t s' before (opens_text m) r = tail-open m before r
tail-step s t s' before (opens_body ms) r = omega (arith, longer before Open)
tail-step s t s' before (opens_ring b) r = (before, [], refl, refl)
tail-step s t s' before (takes_x b ps w z e) r = (r.0, r.1, w, rw r.2 (simp append_assoc), ok-coordinate w z e, r.3)
tail-step s t s' before (takes_y b ps v w z e) r =
    let text : PointText (point_of v z) (Word r.2 ∷ Word w ∷ []) = (r.2, w, refl, r.4, ok-coordinate w z e) in
    (r.0, r.1 ++ Word r.2 ∷ Word w ∷ [], rw r.3 (simp append_assoc), pending-point ps (point_of v z) r.1 (Word r.2 ∷ Word w ∷ []) r.5 text)
tail-step s t s' before (closes_ring b ps) r = (before, refl)
tail-step s t s' before (next_point b ps) r = (r.0, r.1 ++ Comma ∷ [], rw r.2 (simp append_assoc), pending ps r.1 r.3)
tail-step s t s' before (closes_body b) r = tail-close b.multi (b.members ++ member_of b.rings ∷ []) before
tail-step s t s' before (next_ring b) r = after-close before Comma r
tail-step s t s' before (closes_text ms) r = (before, refl)
tail-step s t s' before (next_body ms) r = after-close before Comma r
tail-step s t s' before (finishes ms) r = (before, refl)

tail-run : (ts before : List Token) (s s' : ParserState) → run s ts ≡ Ok s' → Tail s before → Tail s' (before ++ ts)
tail-run [] before s s' h r = let e : s ≡ s' = cc in rw (← e, append-nil before) r
tail-run (t ∷ ts) before s s' h r =
    let a = then-ok _ _ _ h in
    let regroup : (before ++ t ∷ []) ++ ts ≡ before ++ t ∷ ts = append_assoc before (t ∷ []) ts in
    subst (Tail s') regroup (tail-run ts (before ++ t ∷ []) a.0 s' a.2 (tail-step s t a.0 before (goes s t a.0 a.1) r))

-- tokens that take the machine from the keyword to a state end as they have to before that state
pub tail : (before : List Token) (s : ParserState) → run AtKeyword before ≡ Ok s → Tail s before
tail before s h = tail-run before [] AtKeyword s h refl
