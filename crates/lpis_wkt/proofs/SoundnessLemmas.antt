-- What the machine takes to the end, the grammar spells.
use Rattle.std.proofs.Common.{◌≡◌, ℕ, zero, suc, ◌<◌, ◌≤◌, Bool, true, false, cond, List, [], ◌∷◌, ◌++◌, length, Ok, refl, sym, ap, subst, ◌∙◌, inl, inr, ◌⊎◌, append_assoc, arith}
use Rattle.lpis_wkt.proofs.Common.{Point, Member, IsRing, Coordinate, Token, Open, Close, Comma, Word, End, number, point_of, PointText, Commas, is_polygon, is_multi, Context, ParserState, AtKeyword}
use Rattle.lpis_wkt.proofs.Common.{AfterKeyword, AtBody, AtRing, AtX, AtY, AfterPoint, AfterRing, AfterBody, AtEnd, Finished, with_ring, close_body, new_body, open_text, run}
use Rattle.lpis_wkt.specs.Grammar.{RingText, BodyText, Reads}
use Rattle.lpis_wkt.proofs.PointLemmas.{ok-coordinate}
use Rattle.lpis_wkt.proofs.StepLemmas.{then-ok, with_coordinate-ok, close_ring-ok, keyword-ok}
use Rattle.lpis_wkt.proofs.CompletenessLemmas.{adds, adds-append, adds-rings}

-- the machine goes from this state to the end of a text with these members
abbrev Reaches : List Member → ParserState → List Token → Type 0
Reaches q s ts = run s ts ≡ Ok (Finished q)

commas-cons : {A : Type 0} (P : A → List Token → Type 0) (a : A) (more : List A) (f g : List Token) → P a f → Commas P more g → Commas P (a ∷ more) (f ++ Comma ∷ g)
commas-cons P a [] f g h k = absurd k
commas-cons P a (b ∷ more) f g h k = (f, g, h, refl, k)

module _ {S A : Type 0} (P : A → List Token → Type 0) (start stop : S → ParserState) (add : S → A → S) (Out : S → List Token → Type 0) (q : List Member) where
  abbrev Item : Type 0
  Item = (s : S) (ts : List Token) → Reaches q (start s) ts → (a : A) × (front back : List Token) × P a front × (ts ≡ front ++ back) × (length back < length ts) × Reaches q (stop (add s a)) back

  abbrev Next : Type 0
  Next = (s : S) (ts : List Token) → Reaches q (stop s) ts → ((rest : List Token) × (ts ≡ Comma ∷ rest) × Reaches q (start s) rest) ⊎ Out s ts

  abbrev Read : S → List Token → Type 0
  Read s ts = (all : List A) × (front back : List Token) × Commas P all front × (ts ≡ front ++ back) × (length back < length ts) × Out (adds add s all) back

  goes_on : (s : S) (a : A) (ts front rest : List Token) → P a front → ts ≡ front ++ Comma ∷ rest → length rest < length ts → Read (add s a) rest → Read s ts
  goes_on s a ts front rest text split less (more, f, b, texts, split2, less2, out) =
      let whole : front ++ Comma ∷ rest ≡ (front ++ Comma ∷ f) ++ b = rw split2 (simp append_assoc) in
      (a ∷ more, front ++ Comma ∷ f, b, commas-cons P a more front f text texts, split ∙ whole, omega arith, out)

  commas_read : Item → Next → (n : ℕ) (s : S) (ts : List Token) → length ts ≤ n → Reaches q (start s) ts → Read s ts
  commas_read item next zero s ts fits h =
      let (a, front, back, text, split, less, k) = item s ts h in
      absurd (omega arith)
  commas_read item next (suc n) s ts fits h =
      let (a, front, back, text, split, less, k) = item s ts h in
      elim (next (add s a) back k) [
        | inr out ↦ (a ∷ [], front, back, text, split, less, out)
        | inl (rest, e, k2) ↦
            let shorter : suc (length rest) ≡ length back = sym (ap length e) in
            goes_on s a ts front rest text (split ∙ ap (λ (l : List Token). front ++ l) e) (omega arith) (commas_read item next n (add s a) rest (omega arith) k2)
      ]

module _ (q : List Member) where
  at_x : (b : Context) (ps : List Point) (ts : List Token) → Reaches q (AtX b ps) ts → (w : List ℕ)
      × (rest : List Token) × (x : Coordinate) × (ts ≡ Word w ∷ rest) × (number w ≡ Ok x.value)
      × Reaches q (AtY b ps x) rest
  at_x b ps (Word w ∷ ts) h =
      let a = then-ok _ _ _ h in
      let n = with_coordinate-ok _ _ _ a.1 in
      (w, ts, n.0, refl, ok-coordinate w n.0 n.1, rw n.2 a.2)
  at_x b ps _ h = cc

  at_y : (b : Context) (ps : List Point) (x : Coordinate) (ts : List Token) → Reaches q (AtY b ps x) ts → (w : List ℕ)
      × (rest : List Token) × (y : Coordinate) × (ts ≡ Word w ∷ rest) × (number w ≡ Ok y.value)
      × Reaches q (AfterPoint b (ps ++ point_of x y ∷ [])) rest
  at_y b ps x (Word w ∷ ts) h =
      let a = then-ok _ _ _ h in
      let n = with_coordinate-ok _ _ _ a.1 in
      (w, ts, n.0, refl, ok-coordinate w n.0 n.1, rw n.2 a.2)
  at_y b ps x _ h = cc

  abbrev RingOut : Context → List Point → List Token → Type 0
  RingOut b ps ts = (rest : List Token) × (ts ≡ Close ∷ rest) × IsRing ps × Reaches q (AfterRing (with_ring b ps)) rest

  abbrev BodyOut : Context → List Token → Type 0
  BodyOut b ts = (rest : List Token) × (ts ≡ Close ∷ rest) × Reaches q (close_body b) rest

  abbrev MultiOut : List Member → List Token → Type 0
  MultiOut ms ts = (rest : List Token) × (ts ≡ Close ∷ rest) × Reaches q (AtEnd ms) rest

  after_point : (b : Context) (ps : List Point) (ts : List Token) → Reaches q (AfterPoint b ps) ts → ((rest : List Token) × (ts ≡ Comma ∷ rest) × Reaches q (AtX b ps) rest) ⊎ RingOut b ps ts
  after_point b ps (Close ∷ ts) h =
      let a = then-ok _ _ _ h in
      let ring = close_ring-ok b ps a.0 a.1 in
      inr (ts, refl, ring.0, rw ring.1 a.2)
  after_point b ps (Comma ∷ ts) h = inl (ts, refl, h)
  after_point b ps _ h = cc

  after_ring : (b : Context) (ts : List Token) → Reaches q (AfterRing b) ts → ((rest : List Token) × (ts ≡ Comma ∷ rest) × Reaches q (AtRing b) rest) ⊎ BodyOut b ts
  after_ring b (Close ∷ ts) h = inr (ts, refl, h)
  after_ring b (Comma ∷ ts) h = inl (ts, refl, h)
  after_ring b _ h = cc

  after_body : (ms : List Member) (ts : List Token) → Reaches q (AfterBody ms) ts → ((rest : List Token) × (ts ≡ Comma ∷ rest) × Reaches q (AtBody ms) rest) ⊎ MultiOut ms ts
  after_body ms (Close ∷ ts) h = inr (ts, refl, h)
  after_body ms (Comma ∷ ts) h = inl (ts, refl, h)
  after_body ms _ h = cc

  at_ring : (b : Context) (ts : List Token) → Reaches q (AtRing b) ts → (rest : List Token) × (ts ≡ Open ∷ rest) × Reaches q (AtX b []) rest
  at_ring b (Open ∷ ts) h = (ts, refl, h)
  at_ring b _ h = cc

  at_body : (ms : List Member) (ts : List Token) → Reaches q (AtBody ms) ts → (rest : List Token) × (ts ≡ Open ∷ rest) × Reaches q (new_body true ms) rest
  at_body ms (Open ∷ ts) h = (ts, refl, h)
  at_body ms _ h = cc

  after_keyword : (m : Bool) (ts : List Token) → Reaches q (AfterKeyword m) ts → (rest : List Token) × (ts ≡ Open ∷ rest) × Reaches q (open_text m) rest
  after_keyword m (Open ∷ ts) h = (ts, refl, h)
  after_keyword m _ h = cc

  is_over : (ms : List Member) (ts : List Token) → Reaches q (Finished ms) ts → (ts ≡ []) × (ms ≡ q)
  is_over ms [] h = (refl, cc)
  is_over ms (t ∷ ts) h = cc

  at_end : (ms : List Member) (ts : List Token) → Reaches q (AtEnd ms) ts → (ts ≡ End ∷ []) × (ms ≡ q)
  at_end ms (End ∷ ts) h = let r = is_over ms ts h in (ap (λ (l : List Token). End ∷ l) r.0, r.1)
  at_end ms _ h = cc

  abbrev Keyworded : List Token → Type 0
  Keyworded ts = (w : List ℕ) × (rest : List Token) × (ts ≡ Word w ∷ rest)
      × (((is_polygon w ≡ true) × Reaches q (AfterKeyword false) rest)
      ⊎ ((is_multi w ≡ true) × Reaches q (AfterKeyword true) rest))

  at_keyword : (ts : List Token) → Reaches q AtKeyword ts → Keyworded ts
  at_keyword (Word w ∷ ts) h =
      let a = then-ok _ _ _ h in
      elim (keyword-ok w a.0 a.1) [
        | inl (p, e) ↦ (w, ts, refl, inl (p, rw e a.2))
        | inr (m, e) ↦ (w, ts, refl, inr (m, rw e a.2))
      ]
  at_keyword _ h = cc

  point_item : (b : Context) → Item PointText (AtX b) (AfterPoint b) (λ l p. l ++ p ∷ []) (RingOut b) q
  point_item b ps ts h =
      let (wx, rx, x, ex, hx, kx) = at_x b ps ts h in
      let (wy, ry, y, ey, hy, ky) = at_y b ps x rx kx in
      let split : ts ≡ Word wx ∷ Word wy ∷ ry = ex ∙ ap (λ (l : List Token). Word wx ∷ l) ey in
      let less : length ry < length ts = (let n : length ts ≡ suc (suc (length ry)) = ap length split in omega arith) in
      (point_of x y, Word wx ∷ Word wy ∷ [], ry, (wx, wy, refl, hx, hy), split, less, ky)

  points_read : (b : Context) (ts : List Token) → Reaches q (AtX b []) ts → Read PointText (AtX b) (AfterPoint b) (λ l p. l ++ p ∷ []) (RingOut b) q [] ts
  points_read b ts h = commas_read PointText (AtX b) (AfterPoint b) (λ l p. l ++ p ∷ []) (RingOut b) q (point_item b) (after_point b) (length ts) [] ts (omega arith) h

  ring_item : Item RingText AtRing AfterRing with_ring BodyOut q
  ring_item b ts h =
      let (r1, e1, h1) = at_ring b ts h in
      let (ps, front, back, text, split, less, (rest, e2, ring, k)) = points_read b r1 h1 in
      let same : adds (λ (l : List Point) p. l ++ p ∷ []) [] ps ≡ ps = adds-append [] ps in
      let ring2 : IsRing ps = rw same at ring in
      let k2 : Reaches q (AfterRing (with_ring b ps)) rest = subst (λ (l : List Point). Reaches q (AfterRing (with_ring b l)) rest) same k in
      let whole : ts ≡ (Open ∷ front ++ Close ∷ []) ++ rest = e1 ∙ ap (λ (l : List Token). Open ∷ l) (split ∙ ap (λ (l : List Token). front ++ l) e2 ∙ sym (append_assoc front (Close ∷ []) rest)) in
      let shorter : suc (length rest) ≡ length back = sym (ap length e2) in
      let longer : suc (length r1) ≡ length ts = sym (ap length e1) in
      (ps, Open ∷ front ++ Close ∷ [], rest, ((front, text, refl), ring2), whole, omega arith, k2)

  rings_read : (b : Context) (ts : List Token) → Reaches q (AtRing b) ts → Read RingText AtRing AfterRing with_ring BodyOut q b ts
  rings_read b ts h = commas_read RingText AtRing AfterRing with_ring BodyOut q ring_item after_ring (length ts) b ts (omega arith) h

  -- a body: after its `(`, its rings and `)`
  abbrev Body : Bool → List Member → List Token → Type 0
  Body multi ms ts = (m : Member) × (front rest : List Token) × Commas RingText (m.shell ∷ m.holes) front
      × (ts ≡ front ++ Close ∷ rest) × (length rest < length ts)
      × Reaches q (cond multi (AfterBody (ms ++ m ∷ [])) (AtEnd (ms ++ m ∷ []))) rest

  body_of : (multi : Bool) (ms : List Member) (ts : List Token) → Read RingText AtRing AfterRing with_ring BodyOut q (record { multi = multi; members = ms; rings = [] }) ts → Body multi ms ts
  body_of multi ms ts ([], front, back, text, split, less, out) = absurd text
  body_of multi ms ts (r ∷ rs, front, back, text, split, less, (rest, e, k)) =
      let b : Context = record { multi = multi; members = ms; rings = [] } in
      let k2 : Reaches q (close_body (record b { rings = r ∷ rs })) rest = subst (λ (c : Context). Reaches q (close_body c) rest) (adds-rings b (r ∷ rs)) k in
      let shorter : suc (length rest) ≡ length back = sym (ap length e) in
      (record { shell = r; holes = rs }, front, rest, text, split ∙ ap (λ (l : List Token). front ++ l) e, omega arith, k2)

  member_item : Item BodyText AtBody AfterBody (λ l m. l ++ m ∷ []) MultiOut q
  member_item ms ts h =
      let (r1, e1, h1) = at_body ms ts h in
      let (m, front, rest, text, split, less, k) = body_of true ms r1 (rings_read (record { multi = true; members = ms; rings = [] }) r1 h1) in
      let whole : ts ≡ (Open ∷ front ++ Close ∷ []) ++ rest = e1 ∙ ap (λ (l : List Token). Open ∷ l) (split ∙ sym (append_assoc front (Close ∷ []) rest)) in
      let longer : suc (length r1) ≡ length ts = sym (ap length e1) in
      (m, Open ∷ front ++ Close ∷ [], rest, (front, text, refl), whole, omega arith, k)

  members_read : (ts : List Token) → Reaches q (AtBody []) ts → Read BodyText AtBody AfterBody (λ l m. l ++ m ∷ []) MultiOut q [] ts
  members_read ts h = commas_read BodyText AtBody AfterBody (λ l m. l ++ m ∷ []) MultiOut q member_item after_body (length ts) [] ts (omega arith) h

  ends : (k : List ℕ) (ts inner r1 r2 rest : List Token) → ts ≡ Word k ∷ r1 → r1 ≡ Open ∷ r2 → r2 ≡ inner ++ Close ∷ rest → rest ≡ End ∷ [] → ts ≡ Word k ∷ (Open ∷ inner ++ Close ∷ []) ++ End ∷ []
  ends k ts inner r1 r2 rest e1 e2 e3 e4 = rw (e1, e2, e3, e4) (ap (λ (l : List Token). Word k ∷ Open ∷ l) (sym (append_assoc inner (Close ∷ []) (End ∷ []))))

  reads : (ts : List Token) → Reaches q AtKeyword ts → Reads ts q
  reads ts h =
      let (w, r1, e1, either) = at_keyword ts h in
      elim either [
        | inl (keyword, h1) ↦
            let (r2, e2, h2) = after_keyword false r1 h1 in
            let (m, front, rest, text, split, less, k) = body_of false [] r2 (rings_read (record { multi = false; members = []; rings = [] }) r2 h2) in
            let (e4, same) = at_end (m ∷ []) rest k in
            (w, Open ∷ front ++ Close ∷ [], ends w ts front r1 r2 rest e1 e2 split e4, inl (keyword, (m, sym same, (front, text, refl))))
        | inr (keyword, h1) ↦
            let (r2, e2, h2) = after_keyword true r1 h1 in
            let (ms, front, back, text, split, less, (rest, e3, k)) = members_read r2 h2 in
            let (e4, same) = at_end (adds (λ (l : List Member) m. l ++ m ∷ []) [] ms) rest k in
            let is : ms ≡ q = sym (adds-append [] ms) ∙ same in
            let text2 : Commas BodyText q front = subst (λ (l : List Member). Commas BodyText l front) is text in
            (w, Open ∷ front ++ Close ∷ [], ends w ts front r1 r2 rest e1 e2 (split ∙ ap (λ (l : List Token). front ++ l) e3) e4, inr (keyword, (front, text2, refl)))
      ]

-- tokens with which the machine finishes are a text of the grammar, and spell the members of its last state
pub runs_reads : (ts : List Token) (ms : List Member) → run AtKeyword ts ≡ Ok (Finished ms) → Reads ts ms
runs_reads ts ms h = reads ms ts h
