-- The events that the loops over boxes in stretches have made so far.
use Rattle.std.proofs.Common.{◌≡◌, ℕ, ◌+◌, ◌-◌, ◌<◌, ◌≤◌, Bool, true, List, [], ◌∷◌, ◌++◌, length, ◌⊎◌, inl, inr, sym, subst, arith, Contains}
use Rattle.lpis_pairs.proofs.Common.{Extent, Event}
use Rattle.std.proofs.lemmas.List.Elements.{All-nil, All-push, Contains-append_left, Contains-push}
use Rattle.lpis_pairs.specs.private.Holding.{HasHolders, HasPlaces, Pushes, box_at, holds_first, holds_last, mark}
use Rattle.lpis_pairs.specs.private.Sweeping.{AreEvents}

abbrev IsWithin : ℕ → Event → Type 0
IsWithin count e = e.index < count

none_yet : (xs : List Extent) (es : List Event) → es ≡ [] → AreEvents (length xs) es
none_yet xs es e = subst (λ (fs : List Event). AreEvents (length xs) fs) (sym e) (All-nil (IsWithin (length xs)))

-- the same of what the code computed
pub pushes_read : (b b' : Bool) (e e' : Event) (es fs : List Event) → b ≡ b' → e ≡ e' → Pushes b e es fs → Pushes b' e' es fs
pushes_read b b' e e' es fs p q h = subst (λ (v : Bool). Pushes v e' es fs) p (subst (λ (x : Event). Pushes b x es fs) q h)

-- ---- what holds a stretch
-- those of the boxes below n
pub record HoldersBelow (xs : List Extent) (es : List Event) (n : ℕ) : Type 0 where
  pub only : AreEvents (length xs) es
  pub first : (i : ℕ) → i < n → holds_first (box_at xs i) ≡ true → Contains es (mark (box_at xs i) i ((box_at xs i).bottom + 1))
  pub last : (i : ℕ) → i < n → holds_last (box_at xs i) ≡ true → Contains es (mark (box_at xs i) i ((box_at xs i).top - 1))

-- the empty list has the events of the boxes below 0
pub no_holders : (xs : List Extent) (es : List Event) → es ≡ [] → HoldersBelow xs es 0
no_holders xs es e = record {
  only = none_yet xs es e;
  first = λ i l. absurd (omega arith);
  last = λ i l. absurd (omega arith);
}

-- with those of the box n pushed, they are those of the boxes below n + 1
pub holders_pushed : (xs : List Extent) (es fs gs : List Event) (n above : ℕ) → n < length xs
    → (holds_first (box_at xs n) ≡ true → above ≡ (box_at xs n).bottom + 1) → HoldersBelow xs es n
    → Pushes (holds_first (box_at xs n)) (mark (box_at xs n) n above) es fs
    → Pushes (holds_last (box_at xs n)) (mark (box_at xs n) n ((box_at xs n).top - 1)) fs gs → HoldersBelow xs gs (n + 1)
holders_pushed xs es fs gs n above within is h p q = record {
  only = q.only (length xs) within (p.only (length xs) within h.only);
  first = λ i l t. by_first i t (grind arith);
  last = λ i l t. by_last i t (grind arith);
}
  where
    by_first : (i : ℕ) → holds_first (box_at xs i) ≡ true → (i < n) ⊎ (i ≡ n) → Contains gs (mark (box_at xs i) i ((box_at xs i).bottom + 1))
    by_first i t (inl l) = q.kept _ (p.kept _ (h.first i l t))
    by_first i t (inr e) =
        let t' : holds_first (box_at xs n) ≡ true = subst (λ (v : ℕ). holds_first (box_at xs v) ≡ true) e t in
        subst (λ (v : ℕ). Contains gs (mark (box_at xs v) v ((box_at xs v).bottom + 1))) (sym e)
        (subst (λ (v : ℕ). Contains gs (mark (box_at xs n) n v)) (is t') (q.kept _ (p.pushed t')))

    by_last : (i : ℕ) → holds_last (box_at xs i) ≡ true → (i < n) ⊎ (i ≡ n) → Contains gs (mark (box_at xs i) i ((box_at xs i).top - 1))
    by_last i t (inl l) = q.kept _ (p.kept _ (h.last i l t))
    by_last i t (inr e) =
        let t' : holds_last (box_at xs n) ≡ true = subst (λ (v : ℕ). holds_last (box_at xs v) ≡ true) e t in
        subst (λ (v : ℕ). Contains gs (mark (box_at xs v) v ((box_at xs v).top - 1))) (sym e) (q.pushed t')

-- past the last box, each has its events
pub all_holders : (xs : List Extent) (es : List Event) (n : ℕ) → length xs ≤ n → HoldersBelow xs es n → HasHolders xs es
all_holders xs es n l h = record {
  only = h.only;
  first = λ i m. h.first i (omega arith);
  last = λ i m. h.last i (omega arith);
}

-- ---- what begins in a stretch
-- those of the boxes below n
pub record PlacesBelow (xs : List Extent) (es : List Event) (n : ℕ) : Type 0 where
  pub only : AreEvents (length xs) es
  pub all : (i : ℕ) → i < n → Contains es (mark (box_at xs i) i (box_at xs i).bottom)

-- the empty list has the events of the boxes below 0
pub no_places : (xs : List Extent) (es : List Event) → es ≡ [] → PlacesBelow xs es 0
no_places xs es e = record { only = none_yet xs es e; all = λ i l. absurd (omega arith) }

-- with that of the box n pushed, they are those of the boxes below n + 1
pub place_pushed : (xs : List Extent) (es : List Event) (n : ℕ) → n < length xs → PlacesBelow xs es n
    → PlacesBelow xs (es ++ mark (box_at xs n) n (box_at xs n).bottom ∷ []) (n + 1)
place_pushed xs es n within h = record {
  only = All-push (IsWithin (length xs)) es _ h.only within;
  all = λ i l. by_case i (grind arith);
}
  where
    by_case : (i : ℕ) → (i < n) ⊎ (i ≡ n) → Contains (es ++ mark (box_at xs n) n (box_at xs n).bottom ∷ []) (mark (box_at xs i) i (box_at xs i).bottom)
    by_case i (inl l) = Contains-append_left es _ _ (h.all i l)
    by_case i (inr e) =
        subst (λ (v : ℕ). Contains (es ++ mark (box_at xs n) n (box_at xs n).bottom ∷ []) (mark (box_at xs v) v (box_at xs v).bottom)) (sym e)
        (Contains-push es (mark (box_at xs n) n (box_at xs n).bottom))

-- past the last box, each has its event
pub all_places : (xs : List Extent) (es : List Event) (n : ℕ) → length xs ≤ n → PlacesBelow xs es n → HasPlaces xs es
all_places xs es n l h = record { only = h.only; all = λ i m. h.all i (omega arith) }
