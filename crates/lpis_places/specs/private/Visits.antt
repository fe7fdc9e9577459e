-- What looking at pieces finds of points.
use Rattle.std.specs.Prelude.{◌≡◌, ◌<◌, ◌↔◌, ◌⊎◌, ⊤, ℕ, Bool, true, List, All}
use Rattle.std.specs.Prelude.{Contains as IsAmong, length}
use Rattle.std.specs.Prelude.{Option, None, Some, get_or, slice_get}
use Rattle.lpis_points.specs.Plane.{RationalPoint}
use Rattle.lpis_tables.specs.declared.piece.Piece.{Piece}
use Rattle.lpis_checker.specs.SoundMap.{IsInPiece}
use Rattle.lpis_places.specs.declared.edges.Edge.{Edge}
use Rattle.lpis_places.specs.declared.index.Slot.{Slot}
use Rattle.lpis_places.specs.declared.place.Place.{Place}
use Rattle.lpis_places.specs.Points.{Given, rational_at}
use Rattle.lpis_places.specs.private.Insides.{flipped}

-- the place is in this piece
pub record IsPlaceBy (p : RationalPoint) (k : Piece) (a : Place) : Type 0 where
  pub parcel_is : a.parcel ≡ k.parcel
  pub piece_is : a.piece ≡ k.id
  pub class_is : a.class ≡ k.class
  pub in_piece : IsInPiece p k

-- the edges that are left tell of the slot's point, with what was said by the others
abbrev pub DoTell : Piece → Bool → List Edge → Slot → Type 0
DoTell k odd edges s = (flipped odd (rational_at s.spot) edges ≡ true)
    ↔ IsInPiece (rational_at s.spot) k

-- ---- one piece
-- a place that was found stays, and one that is new is in the piece
abbrev pub IsTouched : Piece → RationalPoint → Option Place → Option Place → Type 0
IsTouched k p (Some a) new = new ≡ Some a
IsTouched k p None (Some a) = IsPlaceBy p k a
IsTouched k p None None = ⊤

-- so it is of each point
pub record AreTouched (k : Piece) (ps : List Given) (old new : List (Option Place)) : Type 0 where
  pub as_many : length new ≡ length old
  pub each : (i : ℕ) (g : Given) (f h : Option Place) → slice_get ps i ≡ Some g
      → slice_get old i ≡ Some f → slice_get new i ≡ Some h → IsTouched k g.at f h

-- the piece does not contain the point of this row, if it has no place
abbrev pub IsSettled : Piece → List Given → List (Option Place) → ℕ → Type 0
IsSettled k ps found i =
    (g : Given) → slice_get ps i ≡ Some g → slice_get found i ≡ Some None → IsInPiece g.at k → ⊥

-- so it is of the rows of these slots
abbrev pub AreSettled : Piece → List Given → List (Option Place) → List Slot → Type 0
AreSettled k ps found slots = All (λ (s : Slot). IsSettled k ps found s.row) slots

-- each slot of a strip is among those that were met, or its row is settled
abbrev pub AreMet : Piece → List Given → List Slot → List (Option Place) → ℕ → List Slot → Type 0
AreMet k ps slots found n met = (m : ℕ) (d : Slot) → m < length slots
    → (get_or slots m d).strip ≡ n
    → IsAmong met (get_or slots m d) ⊎ IsSettled k ps found (get_or slots m d).row

-- the rows of a strip are settled
abbrev pub IsStripSettled : Piece → List Given → List Slot → List (Option Place) → ℕ → Type 0
IsStripSettled k ps slots found n = (m : ℕ) (d : Slot) → m < length slots
    → (get_or slots m d).strip ≡ n → IsSettled k ps found (get_or slots m d).row

-- ---- pieces
-- a place that was found stays; where none was there is one in one of the pieces, or none of them
-- contains the point
abbrev pub IsVisited : List Piece → RationalPoint → Option Place → Option Place → Type 0
IsVisited ks p (Some a) new = new ≡ Some a
IsVisited ks p None (Some a) = (k : Piece) × IsAmong ks k × IsPlaceBy p k a
IsVisited ks p None None = All (λ (k : Piece). IsInPiece p k → ⊥) ks

-- so it is of each point
pub record AreVisited (ks : List Piece) (ps : List Given) (old new : List (Option Place)) : Type 0
  where
    pub as_many : length new ≡ length old
    pub each : (i : ℕ) (g : Given) (f h : Option Place) → slice_get ps i ≡ Some g
        → slice_get old i ≡ Some f → slice_get new i ≡ Some h → IsVisited ks g.at f h
