-- The machine takes what the grammar spells.
use Rattle.std.proofs.Common.{◌≡◌, ℕ, suc, Bool, true, false, cond, List, [], ◌∷◌, ◌++◌, length, Ok, refl, sym, ap, ◌∙◌, inl, inr, append_assoc, arith, nat_lt, codes, nat_eq}
use Rattle.lpis_wkt.proofs.Common.{and_parts, nat_tests, Point, Member, IsRing, Coordinate, Token, Open, Close, Comma, Word, End, PointText, Commas, is_polygon, is_multi, Context, ParserState}
use Rattle.lpis_wkt.proofs.Common.{AtKeyword}
use Rattle.lpis_wkt.proofs.Common.{AtBody, AtRing, AtX, AfterPoint, AfterRing, AfterBody, AtEnd, Finished, with_ring, run}
use Rattle.std.specs.Char.{to_ascii_lowercase}
use Rattle.std.specs.Str.{str_eq_ignore_ascii_case, str_to_ascii_lowercase}
use Rattle.std.specs.Cmp.Lexicographic.{pointwise}
use Rattle.std.proofs.lemmas.List.{append-nil, length-map}
use Rattle.std.proofs.lemmas.Bool.{false_from_ne_true}
use Rattle.lpis_wkt.specs.Grammar.{RingText, BodyText, Reads}
use Rattle.lpis_wkt.proofs.PointLemmas.{coordinate-ok, true-is_closed}

-- one or more things with commas, where one of them is taken and a comma goes on
abbrev pub adds : {S A : Type 0} → (S → A → S) → S → List A → S
adds add s [] = s
adds add s (a ∷ more) = adds add (add s a) more

module _ {S A : Type 0} (P : A → List Token → Type 0) (start stop : S → ParserState) (add : S → A → S) where
  commas_run : ((s : S) (a : A) (ts rest : List Token) → P a ts → run (start s) (ts ++ rest) ≡ run (stop (add s a)) rest)
      → ((s : S) (rest : List Token) → run (stop s) (Comma ∷ rest) ≡ run (start s) rest)
      → (s : S) (all : List A) (ts rest : List Token) → Commas P all ts → run (start s) (ts ++ rest) ≡ run (stop (adds add s all)) rest
  commas_run item comma s [] ts rest h = absurd h
  commas_run item comma s (a ∷ []) ts rest h = item s a ts rest h
  commas_run item comma s (a ∷ b ∷ more) ts rest (front, back, h, e, t) =
      let one : run (start s) (ts ++ rest) ≡ run (stop (add s a)) (Comma ∷ back ++ rest) = rw (e, append_assoc) (item s a front (Comma ∷ back ++ rest) h) in
      one ∙ comma (add s a) (back ++ rest) ∙ commas_run item comma (add s a) (b ∷ more) back rest t

point_runs : (b : Context) (ps : List Point) (p : Point) (ts rest : List Token) → PointText p ts → run (AtX b ps) (ts ++ rest) ≡ run (AfterPoint b (ps ++ p ∷ [])) rest
point_runs b ps p ts rest (x, y, e, hx, hy) =
    let cx : Coordinate = record { value = p.x; in_range = p.x_in_range } in
    let cy : Coordinate = record { value = p.y; in_range = p.y_in_range } in
    rw e (rw (coordinate-ok x cx hx, coordinate-ok y cy hy) refl)

-- items that are added at the end of a list one by one are appended to it
pub adds-append : {A : Type 0} (xs ys : List A) → adds (λ (l : List A) x. l ++ x ∷ []) xs ys ≡ xs ++ ys
adds-append xs [] = sym (append-nil xs)
adds-append xs (y ∷ ys) = adds-append (xs ++ y ∷ []) ys ∙ append_assoc xs (y ∷ []) ys

-- a run over the text of points goes on after a point, with these points added to the ring
pub points_run : (b : Context) (ps more : List Point) (ts rest : List Token) → Commas PointText more ts → run (AtX b ps) (ts ++ rest) ≡ run (AfterPoint b (ps ++ more)) rest
points_run b ps more ts rest h =
    commas_run PointText (AtX b) (AfterPoint b) (λ l p. l ++ p ∷ []) (point_runs b) (λ s rest. refl) ps more ts rest h ∙ ap (λ (l : List Point). run (AfterPoint b l) rest) (adds-append ps more)

-- where the points are a ring, a run over its `)` goes on after the ring, which is added
pub ring_closes : (b : Context) (ps : List Point) (rest : List Token) → IsRing ps → run (AfterPoint b ps) (Close ∷ rest) ≡ run (AfterRing (with_ring b ps)) rest
ring_closes b ps rest ring =
    let few : nat_lt (length ps) 4 ≡ false = let four = ring.four in grind (arith, nat_tests) in
    rw (few, true-is_closed ps ring.closed) refl

ring_runs : (b : Context) (ps : List Point) (ts rest : List Token) → RingText ps ts → run (AtRing b) (ts ++ rest) ≡ run (AfterRing (with_ring b ps)) rest
ring_runs b ps ts rest ((points, all, e), ring) =
    let whole : ts ++ rest ≡ Open ∷ points ++ Close ∷ rest = rw e (simp append_assoc) in
    ap (run (AtRing b)) whole ∙ points_run b [] ps points (Close ∷ rest) all ∙ ring_closes b ps rest ring

rings_run : (b : Context) (rs : List (List Point)) (ts rest : List Token) → Commas RingText rs ts → run (AtRing b) (ts ++ rest) ≡ run (AfterRing (adds with_ring b rs)) rest
rings_run b rs ts rest h = commas_run RingText AtRing AfterRing with_ring ring_runs (λ s rest. refl) b rs ts rest h

-- rings that are added one by one are appended to the rings before
pub adds-rings : (b : Context) (rs : List (List Point)) → adds with_ring b rs ≡ record b { rings = b.rings ++ rs }
adds-rings b [] = ap (λ (l : List (List Point)). let c : Context = record { multi = b.multi; members = b.members; rings = l } in c) (sym (append-nil b.rings))
adds-rings b (r ∷ rs) = adds-rings (with_ring b r) rs ∙ ap (λ (l : List (List Point)). let c : Context =
    record { multi = b.multi; members = b.members; rings = l } in c) (append_assoc b.rings (r ∷ []) rs)

body_runs : (multi : Bool) (ms : List Member) (m : Member) (ts rest : List Token) → Commas RingText (m.shell ∷ m.holes) ts
    → run (AtRing (record { multi = multi; members = ms; rings = [] })) (ts ++ Close ∷ rest) ≡ run (cond multi (AfterBody (ms ++ m ∷ [])) (AtEnd (ms ++ m ∷ []))) rest
body_runs multi ms m ts rest h =
    let b : Context = record { multi = multi; members = ms; rings = [] } in
    rings_run b (m.shell ∷ m.holes) ts (Close ∷ rest) h ∙ ap (λ (c : Context). run (AfterRing c) (Close ∷ rest)) (adds-rings b (m.shell ∷ m.holes))

member_runs : (ms : List Member) (m : Member) (ts rest : List Token) → BodyText m ts → run (AtBody ms) (ts ++ rest) ≡ run (AfterBody (ms ++ m ∷ [])) rest
member_runs ms m ts rest (inner, h, e) =
    let whole : ts ++ rest ≡ Open ∷ inner ++ Close ∷ rest = rw e (simp append_assoc) in
    ap (run (AtBody ms)) whole ∙ body_runs true ms m inner rest h

members_run : (ms more : List Member) (ts rest : List Token) → Commas BodyText more ts → run (AtBody ms) (ts ++ rest) ≡ run (AfterBody (ms ++ more)) rest
members_run ms more ts rest h =
    commas_run BodyText AtBody AfterBody (λ l m. l ++ m ∷ []) member_runs (λ s rest. refl) ms more ts rest h ∙ ap (λ (l : List Member). run (AfterBody l) rest) (adds-append ms more)

pointwise-length : (a b : List ℕ) → pointwise nat_eq a b ≡ true → length a ≡ length b
pointwise-length [] [] h = refl
pointwise-length (x ∷ a) (y ∷ b) h = ap suc (pointwise-length a b (and_parts _ _ h).1)
pointwise-length _ _ h = cc

length-lower : (a b : List ℕ) → str_eq_ignore_ascii_case a b ≡ true → length a ≡ length b
length-lower a b h = sym (length-map a to_ascii_lowercase) ∙ pointwise-length (str_to_ascii_lowercase a) (str_to_ascii_lowercase b) h ∙ length-map b to_ascii_lowercase

-- no word is both keywords
apart : (w : List ℕ) → is_polygon w ≡ true → is_multi w ≡ true → ⊥
apart w h k = absurd (omega (arith, length-lower w (codes "POLYGON") h, length-lower w (codes "MULTIPOLYGON") k))

-- the machine takes a text of the grammar to its end, and finishes with the members that it spells
pub reads_runs : (ts : List Token) (ms : List Member) → Reads ts ms → run AtKeyword ts ≡ Ok (Finished ms)
reads_runs ts ms (k, body, e, inl (keyword, (m, one, (inner, h, e2)))) =
    let whole : ts ≡ Word k ∷ Open ∷ inner ++ Close ∷ End ∷ [] = e ∙ ap (λ (l : List Token). Word k ∷ l ++ End ∷ []) e2
    ∙ ap (λ (l : List Token). Word k ∷ Open ∷ l) (append_assoc inner (Close ∷ []) (End ∷ [])) in
    rw (whole, one) (rw keyword (body_runs false [] m inner (End ∷ []) h))
reads_runs ts ms (k, body, e, inr (keyword, (inner, h, e2))) =
    let whole : ts ≡ Word k ∷ Open ∷ inner ++ Close ∷ End ∷ [] = e ∙ ap (λ (l : List Token). Word k ∷ l ++ End ∷ []) e2
    ∙ ap (λ (l : List Token). Word k ∷ Open ∷ l) (append_assoc inner (Close ∷ []) (End ∷ [])) in
    let other : is_polygon k ≡ false = false_from_ne_true (is_polygon k) (λ p. apart k p keyword) in
    rw whole (rw (other, keyword) (members_run [] ms inner (Close ∷ End ∷ []) h))
