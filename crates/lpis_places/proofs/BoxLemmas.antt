-- A piece contains points of its box alone, and looking at the strips that the box meets leaves none out.
use Rattle.std.proofs.Common.{◌≡◌, ℕ, ◌+◌, ◌<◌, ◌≤◌, ℤ, pos, ◌≤ℤ◌, ◌<ℤ◌, false, List, [], ◌∷◌, ◌++◌, length, get_or, Option, Some, All, ◌⊎◌, inl, inr, ap, sym, ◌∙◌, subst, arith, slice_get}
use Rattle.std.specs.Prelude.{Contains as IsAmong}
use Rattle.std.proofs.lemmas.Bool.{cases_lt}
use Rattle.std.proofs.lemmas.Int.{ints}
use Rattle.std.proofs.lemmas.List.Elements.{All-contains, All-push, Contains-append_left}
use Rattle.std.proofs.lemmas.Option.{same_Some, slice_get-get_or}
use Rattle.lpis_points.specs.Plane.{RationalPoint}
use Rattle.lpis_rings.specs.Edges.{turns}
use Rattle.lpis_tables.specs.declared.piece.Piece.{Piece}
use Rattle.lpis_release.specs.Release.{Contents}
use Rattle.lpis_edge_sums.proofs.Shared.{all_at}
use Rattle.lpis_checker.specs.SoundMap.{IsInPiece, IsSoundMap, TurnsTell}
use Rattle.lpis_country.specs.Polygons.{HasClosedRings, box_of_members}
use Rattle.lpis_country.proofs.Shared.{IsPointIn, box_covers, in_its_box}
use Rattle.lpis_places.specs.declared.index.Slot.{Slot}
use Rattle.lpis_places.specs.declared.place.Place.{Place}
use Rattle.lpis_places.specs.declared.grid.Grid.{Grid}
use Rattle.lpis_places.specs.declared.reach.Reach.{Reach}
use Rattle.lpis_places.specs.Numbers.{parts}
use Rattle.lpis_places.specs.Points.{Given, rational_at}
use Rattle.lpis_places.specs.private.Reaches.{IsBoxed, reach_of}
use Rattle.lpis_places.specs.private.Slots.{AreAscending, HasSlots, IsOrder, IsSlot, StartsAt, stands_before}
use Rattle.lpis_places.specs.private.Strips.{IsStripOf}
use Rattle.lpis_places.specs.private.Visits.{AreMet, AreSettled, AreTouched, IsSettled, IsStripSettled}
use Rattle.lpis_places.proofs.SlotLemmas.{stands_above, stands_below}
use Rattle.lpis_places.proofs.StripLemmas.{strips_rise}
use Rattle.lpis_places.proofs.VisitLemmas.{still_settled}

-- ---- the box
at_index : {A : Type 0} (xs : List A) (x : A) (h : IsAmong xs x) → slice_get xs h.0 ≡ Some x
at_index xs x h = slice_get-get_or xs h.0 x h.1 ∙ ap Some h.2

some_parts : pos 0 <ℤ parts
some_parts = omega (arith, ints)

-- a piece of a sound map contains points of its box alone
in_box : (r : Contents) (k : Piece) (p : RationalPoint) → IsSoundMap r → IsAmong r.pieces k → HasClosedRings k.polygon → pos 0 <ℤ p.d → IsInPiece p k → IsPointIn (box_of_members k.polygon) p
in_box r k p sound among closed d inside =
    let told = all_at (λ (x : Piece). TurnsTell (IsInPiece p x) (turns x.polygon p)) r.pieces among.0 k (at_index r.pieces k among) (sound.turns.pieces p d) in
    in_its_box (box_of_members k.polygon) p d k.polygon closed (box_covers k.polygon) (told.1.0 inside)

-- the box that the code has is one of the piece
pub boxed : (r : Contents) (k : Piece) (b : Reach) → IsSoundMap r → IsAmong r.pieces k → HasClosedRings k.polygon → b ≡ reach_of (box_of_members k.polygon) → IsBoxed k b
boxed r k b sound among closed is s inside =
    let w = in_box r k (rational_at s) sound among closed some_parts inside in
    rw is ((w.left, w.right), (w.low, w.high))

agree : {A : Type 0} (xs : List A) (n : ℕ) (d e : A) → n < length xs → get_or xs n d ≡ get_or xs n e
agree xs n d e l = same_Some (get_or xs n d) (get_or xs n e) (sym (slice_get-get_or xs n d l) ∙ slice_get-get_or xs n e l)

apart : (x y : ℤ) → x ≤ℤ y → y <ℤ x → ⊥
apart x y h l = omega (arith, ints)

only : (s o : ℕ) → o ≤ s → s < o + 1 → s ≡ o
only s o v to = omega arith

weaker : (x y : ℤ) → x <ℤ y → x ≤ℤ y
weaker x y l = omega (arith, ints)

-- ---- slots outside of the box are settled
of_slot : (ps : List Given) (s : Slot) (g : Given) → IsSlot ps s → slice_get ps s.row ≡ Some g → g.at ≡ rational_at s.spot
of_slot ps s g is e = ap (λ (v : Given). v.at) (same_Some g is.point (sym e ∙ is.at)) ∙ is.same

-- a slot whose point is not in the piece is settled
pub outside : (k : Piece) (ps : List Given) (found : List (Option Place)) (s : Slot) → IsSlot ps s → (IsInPiece (rational_at s.spot) k → ⊥) → IsSettled k ps found s.row
outside k ps found s is n g e none inside = n (subst (λ (p : RationalPoint). IsInPiece p k) (of_slot ps s g is e) inside)

-- those of a strip before the n-th are, or were met
abbrev pub MetBelow : Piece → List Given → List Slot → List (Option Place) → ℕ → List Slot → ℕ → Type 0
MetBelow k ps slots found strip met n = (m : ℕ) (d : Slot) → m < n → m < length slots → (get_or slots m d).strip ≡ strip → IsAmong met (get_or slots m d) ⊎ IsSettled k ps found (get_or slots m d).row

-- those before the first slot that is not below the box
pub met_before : (k : Piece) (b : Reach) (ps : List Given) (slots : List Slot) (found : List (Option Place)) (strip : ℕ) (met : List Slot) (start : ℕ) → IsBoxed k b
    → HasSlots ps slots → StartsAt slots strip b.low start → MetBelow k ps slots found strip met start
met_before k b ps slots found strip met start h has at m d l w is =
    let s = get_or slots m d in
    inr (outside k ps found s (has.only m d w) (λ inside. apart b.low s.spot.y (h s.spot inside).1.0 (stands_below s strip b.low is (at.before m d l))))

-- from a slot that does not stand before the high side on, all are
pub met_past : (k : Piece) (b : Reach) (ps : List Given) (slots : List Slot) (found : List (Option Place)) (strip : ℕ) (met : List Slot) (n : ℕ) (e : Slot) → IsBoxed k b → HasSlots ps slots
    → AreAscending slots → n < length slots → stands_before (get_or slots n e) strip b.high ≡ false → MetBelow k ps slots found strip met n → AreMet k ps slots found strip met
met_past k b ps slots found strip met n e h has up l past below m d v is = by (cases_lt m n)
  where
    by : (m < n) ⊎ (n ≤ m) → IsAmong met (get_or slots m d) ⊎ IsSettled k ps found (get_or slots m d).row
    by (inl a) = below m d a v is
    by (inr a) =
        let s = get_or slots m d in
        let same : stands_before (get_or slots n d) strip b.high ≡ false = ap (λ (t : Slot). stands_before t strip b.high) (agree slots n d e l) ∙ past in
        inr (outside k ps found s (has.only m d v)
        (λ inside. apart b.high s.spot.y (stands_above (get_or slots n d) s strip b.high (up n m d a v) same is) (h s.spot inside).1.1))

-- one slot more
pub met_step : (k : Piece) (ps : List Given) (slots : List Slot) (found : List (Option Place)) (strip : ℕ) (met new : List Slot) (n : ℕ) (e : Slot) → n < length slots
    → e ≡ get_or slots n e → IsAmong new e ⊎ IsSettled k ps found e.row → (new ≡ met) ⊎ (new ≡ met ++ e ∷ []) → MetBelow k ps slots found strip met n → MetBelow k ps slots found strip new (n + 1)
met_step k ps slots found strip met new n e l is this more below m d u w of = by (cases_lt m n)
  where
    longer : (s : Slot) → (new ≡ met) ⊎ (new ≡ met ++ e ∷ []) → IsAmong met s → IsAmong new s
    longer s (inl f) a = subst (λ (xs : List Slot). IsAmong xs s) (sym f) a
    longer s (inr f) a = subst (λ (xs : List Slot). IsAmong xs s) (sym f) (Contains-append_left met (e ∷ []) s a)

    still : IsAmong met (get_or slots m d) ⊎ IsSettled k ps found (get_or slots m d).row → IsAmong new (get_or slots m d) ⊎ IsSettled k ps found (get_or slots m d).row
    still (inl a) = inl (longer (get_or slots m d) more a)
    still (inr s) = inr s

    by : (m < n) ⊎ (n ≤ m) → IsAmong new (get_or slots m d) ⊎ IsSettled k ps found (get_or slots m d).row
    by (inl v) = still (below m d v w of)
    by (inr v) =
        let same : m ≡ n = omega arith in
        let item : e ≡ get_or slots m d = is ∙ agree slots n e d l ∙ ap (λ (i : ℕ). get_or slots i d) (sym same) in
        subst (λ (s : Slot). IsAmong new s ⊎ IsSettled k ps found s.row) item this

-- those that were met have the points of their rows
pub only_met : (ps : List Given) (met new : List Slot) (e : Slot) → IsSlot ps e → (new ≡ met) ⊎ (new ≡ met ++ e ∷ []) → All (IsSlot ps) met → All (IsSlot ps) new
only_met ps met new e is (inl f) h = subst (λ (xs : List Slot). All (IsSlot ps) xs) (sym f) h
only_met ps met new e is (inr f) h = subst (λ (xs : List Slot). All (IsSlot ps) xs) (sym f) (All-push (IsSlot ps) met e h is)

-- where all slots were looked at
pub all_met : (k : Piece) (ps : List Given) (slots : List Slot) (found : List (Option Place)) (strip : ℕ) (met : List Slot) (n : ℕ) → length slots ≤ n
    → MetBelow k ps slots found strip met n → AreMet k ps slots found strip met
all_met k ps slots found strip met n l below m d w is = below m d (omega arith) w is

-- where those that were met are settled, all of the strip are
pub strip_settled : (k : Piece) (ps : List Given) (slots met : List Slot) (a b : List (Option Place)) (strip : ℕ) → AreMet k ps slots a strip met → AreTouched k ps a b → AreSettled k ps b met
    → IsStripSettled k ps slots b strip
strip_settled k ps slots met a b strip all t settled m d w is = by (all m d w is)
  where
    by : IsAmong met (get_or slots m d) ⊎ IsSettled k ps a (get_or slots m d).row → IsSettled k ps b (get_or slots m d).row
    by (inl s) = All-contains (λ (s : Slot). IsSettled k ps b s.row) met (get_or slots m d) settled s
    by (inr s) = still_settled k ps a b (get_or slots m d).row t s

-- ---- strips
-- those of the strips from the n-th to the one before the o-th are
abbrev pub SettledStrips : Piece → List Given → List Slot → List (Option Place) → ℕ → ℕ → Type 0
SettledStrips k ps slots found n o = (m : ℕ) (d : Slot) → m < length slots → n ≤ (get_or slots m d).strip → (get_or slots m d).strip < o → IsSettled k ps found (get_or slots m d).row

-- one strip more
pub strip_more : (k : Piece) (ps : List Given) (slots : List Slot) (a b : List (Option Place)) (n o : ℕ) → AreTouched k ps a b → IsStripSettled k ps slots b o
    → SettledStrips k ps slots a n o → SettledStrips k ps slots b n (o + 1)
strip_more k ps slots a b n o t this below m d w from to = by (cases_lt (get_or slots m d).strip o)
  where
    by : ((get_or slots m d).strip < o) ⊎ (o ≤ (get_or slots m d).strip) → IsSettled k ps b (get_or slots m d).row
    by (inl v) = still_settled k ps a b (get_or slots m d).row t (below m d w from v)
    by (inr v) = this m d w (only (get_or slots m d).strip o v to)

past : (s e o : ℕ) → s ≤ e → e + 1 ≤ o → s < o
past s e o l m = omega arith

-- a box meets no other strips
pub settled_strips : (k : Piece) (b : Reach) (ps : List Given) (g : Grid) (slots : List Slot) (found : List (Option Place)) (n e o : ℕ) → IsBoxed k b → IsOrder ps g slots
    → IsStripOf g b.left n → IsStripOf g b.right e → e + 1 ≤ o → SettledStrips k ps slots found n o → (m : ℕ) (d : Slot) → m < length slots → IsSettled k ps found (get_or slots m d).row
settled_strips k b ps g slots found n e o h order left right l met m d w p at none inside =
    let s = get_or slots m d in
    let is = order.has.only m d w in
    let of = order.strips m d w in
    let width = (h s.spot (subst (λ (q : RationalPoint). IsInPiece q k) (of_slot ps s p is at) inside)).0 in
    met m d w (strips_rise g b.left s.spot.x n s.strip width.0 left of)
    (past s.strip e o (strips_rise g s.spot.x b.right s.strip e (weaker s.spot.x b.right width.1) of right) l) p at none inside

-- where all slots are settled, so are all rows
pub settled_rows : (k : Piece) (ps : List Given) (slots : List Slot) (found : List (Option Place)) → HasSlots ps slots
    → ((m : ℕ) (d : Slot) → m < length slots → IsSettled k ps found (get_or slots m d).row) → (i : ℕ) → i < length ps → IsSettled k ps found i
settled_rows k ps slots found has all i l =
    let w = has.all i l in
    let s = w.0 in
    let at : (get_or slots w.1.0 s).row ≡ i = ap (λ (t : Slot). t.row) w.1.2 ∙ w.2 in
    subst (λ (n : ℕ). IsSettled k ps found n) at (all w.1.0 s w.1.1)
