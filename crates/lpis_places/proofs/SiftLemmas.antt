-- The halves of slots, and the edges that are left.
use Rattle.std.proofs.Common.{◌≡◌, Bool, List, get_or, All, Contains, ◌⊎◌, inl, inr, sym, ◌∙◌}
use Rattle.std.proofs.lemmas.List.Elements.{All-contains, Contains-get_or}
use Rattle.std.proofs.Common.{Option}
use Rattle.lpis_tables.specs.declared.piece.Piece.{Piece}
use Rattle.lpis_places.specs.declared.edges.Edge.{Edge}
use Rattle.lpis_places.specs.declared.index.Slot.{Slot}
use Rattle.lpis_places.specs.declared.place.Place.{Place}
use Rattle.lpis_places.specs.declared.spans.Span.{Span}
use Rattle.lpis_places.specs.declared.spot.Spot.{Spot}
use Rattle.lpis_places.specs.Points.{Given, rational_at}
use Rattle.lpis_places.specs.private.Insides.{flipped}
use Rattle.lpis_places.specs.private.Slots.{ArePut}
use Rattle.lpis_places.specs.private.Spans.{IsInSpan}
use Rattle.lpis_places.specs.private.Visits.{AreSettled, DoTell, IsSettled}

-- what all slots have, those of a half have
pub half_has : (P : Slot → Type 0) (slots half : List Slot) → All P slots → All (λ (s : Slot). Contains slots s) half → All P half
half_has P slots half all are i d l = All-contains P slots (get_or half i d) all (are i d l)

-- the edges that are left tell of the points of a half
pub half_tells : (k : Piece) (odd inside : Bool) (edges left : List Edge) (slots half : List Slot) (b : Span) → All (DoTell k odd edges) slots → All (λ (s : Slot). IsInSpan b s.spot) slots
    → ((s : Spot) → IsInSpan b s → flipped inside (rational_at s) left ≡ flipped odd (rational_at s) edges) → All (λ (s : Slot). Contains slots s) half → All (DoTell k inside left) half
half_tells k odd inside edges left slots half b tell within alike are i d l =
    let s = get_or half i d in
    let e = alike s.spot (All-contains (λ (t : Slot). IsInSpan b t.spot) slots s within (are i d l)) in
    let h = All-contains (DoTell k odd edges) slots s tell (are i d l) in
    (λ f. h.0 (sym e ∙ f), λ f. e ∙ h.1 f)

-- so do they as they are lent
pub part_tells : (k : Piece) (odd inside : Bool) (edges left lent : List Edge) (slots half part : List Slot) (b : Span) → lent ≡ left → part ≡ half → All (DoTell k odd edges) slots
    → All (λ (s : Slot). IsInSpan b s.spot) slots → ((s : Spot) → IsInSpan b s → flipped inside (rational_at s) left ≡ flipped odd (rational_at s) edges) → All (λ (s : Slot). Contains slots s) half
    → All (DoTell k inside lent) part
part_tells k odd inside edges left lent slots half part b e f tell within alike are = rw (e, f) (half_tells k odd inside edges left slots half b tell within alike are)

-- where both halves are settled, all slots are
pub halves_settled : (k : Piece) (ps : List Given) (found : List (Option Place)) (slots low high : List Slot) → ArePut slots low high → AreSettled k ps found low → AreSettled k ps found high
    → AreSettled k ps found slots
halves_settled k ps found slots low high put a b i d l = by (put.all (get_or slots i d) (Contains-get_or slots i d l))
  where
    by : Contains low (get_or slots i d) ⊎ Contains high (get_or slots i d) → IsSettled k ps found (get_or slots i d).row
    by (inl w) = All-contains (λ (s : Slot). IsSettled k ps found s.row) low (get_or slots i d) a w
    by (inr w) = All-contains (λ (s : Slot). IsSettled k ps found s.row) high (get_or slots i d) b w
