-- The events that the loops over boxes and strips have made so far.
use Rattle.std.proofs.Common.{◌≡◌, ℕ, ◌+◌, ◌/◌, ◌<◌, ◌≤◌, List, [], ◌∷◌, ◌++◌, length, Some, ◌⊎◌, inl, inr, refl, ap, sym, ◌∙◌, subst, arith, Contains, slice_get}
use Rattle.lpis_pairs.proofs.Common.{same_Some, slice_get_within, Extent, Event, event}
use Rattle.std.proofs.lemmas.List.Elements.{All-nil, All-push, Contains-append_left, Contains-push}
use Rattle.lpis_pairs.specs.private.Sweeping.{AreEvents, HasEvents}

-- those of the boxes below n
pub record EventsBelow (xs : List Extent) (height : ℕ) (es : List Event) (n : ℕ) : Type 0 where
  pub only : AreEvents (length xs) es
  pub all : (i strip : ℕ) (x : Extent) → i < n → slice_get xs i ≡ Some x → x.bottom / height ≤ strip → strip ≤ x.top / height → Contains es (event x height i strip)

-- and those of the box n below a strip
pub record EventsUpTo (xs : List Extent) (height : ℕ) (es : List Event) (n upto : ℕ) : Type 0 where
  pub earlier : EventsBelow xs height es n
  pub here : (strip : ℕ) (x : Extent) → slice_get xs n ≡ Some x → x.bottom / height ≤ strip → strip < upto → Contains es (event x height n strip)

abbrev IsWithin : ℕ → Event → Type 0
IsWithin count e = e.index < count

-- the empty list has the events of the boxes below 0, of which there are none
pub nothing_yet : (xs : List Extent) (height : ℕ) (es : List Event) → es ≡ [] → EventsBelow xs height es 0
nothing_yet xs height es e = record {
  only = subst (λ (fs : List Event). AreEvents (length xs) fs) (sym e) (All-nil (IsWithin (length xs)));
  all = λ i s x l. absurd (omega arith);
}

-- the events of the boxes below n are also those up to the lowest strip that the box n meets
pub start_box : (xs : List Extent) (height : ℕ) (es : List Event) (n : ℕ) (x : Extent)
    → slice_get xs n ≡ Some x → EventsBelow xs height es n → EventsUpTo xs height es n (x.bottom / height)
start_box xs height es n x at h = record {
  earlier = h;
  here = λ s y f l m. absurd (omega (arith, ap (λ (v : Extent). v.bottom / height) (same_Some y x (sym f ∙ at))));
}

-- with the event of box n in a strip pushed, the events are those up to the next strip
pub strip_event_pushed : (xs : List Extent) (height : ℕ) (es : List Event) (n strip : ℕ) (x : Extent)
    → slice_get xs n ≡ Some x → EventsUpTo xs height es n strip
    → EventsUpTo xs height (es ++ event x height n strip ∷ []) n (strip + 1)
strip_event_pushed xs height es n strip x at h = record {
  earlier = record {
    only = All-push (IsWithin (length xs)) es (event x height n strip) h.earlier.only (slice_get_within xs n x at);
    all = λ i s y l f g k. Contains-append_left es _ _ (h.earlier.all i s y l f g k);
  };
  here = λ s y f l m. at_strip s y f l (grind arith);
}
  where
    at_strip : (s : ℕ) (y : Extent) → slice_get xs n ≡ Some y → y.bottom / height ≤ s → (s < strip) ⊎ (s ≡ strip) → Contains (es ++ event x height n strip ∷ []) (event y height n s)
    at_strip s y f l (inl m) = Contains-append_left es _ _ (h.here s y f l m)
    at_strip s y f l (inr e) =
        let same = same_Some x y (sym at ∙ f) in
        let one : event x height n strip ≡ event y height n s = rw (e, same) refl in
        subst (λ (v : Event). Contains (es ++ event x height n strip ∷ []) v) one (Contains-push es (event x height n strip))

-- past the highest strip that the box n meets, the events are those of the boxes below n + 1
pub end_box : (xs : List Extent) (height : ℕ) (es : List Event) (n upto : ℕ) (x : Extent)
    → slice_get xs n ≡ Some x → x.top / height + 1 ≤ upto → EventsUpTo xs height es n upto
    → EventsBelow xs height es (n + 1)
end_box xs height es n upto x at k h = record {
  only = h.earlier.only;
  all = λ i s y l f g m. by_case i s y f g m (grind arith);
}
  where
    by_case : (i s : ℕ) (y : Extent) → slice_get xs i ≡ Some y → y.bottom / height ≤ s → s ≤ y.top / height → (i < n) ⊎ (i ≡ n) → Contains es (event y height i s)
    by_case i s y f g m (inl l) = h.earlier.all i s y l f g m
    by_case i s y f g m (inr e) =
        let f' : slice_get xs n ≡ Some y = subst (λ (v : ℕ). slice_get xs v ≡ Some y) e f in
        subst (λ (v : ℕ). Contains es (event y height v s)) (sym e) (h.here s y f' g (omega (arith, ap (λ (v : Extent). v.top / height) (same_Some y x (sym f' ∙ at)))))

-- past the last box, each has its event in each strip that it meets, and there are no others
pub all_events_made : (xs : List Extent) (height : ℕ) (es : List Event) (n : ℕ) → length xs ≤ n → EventsBelow xs height es n → HasEvents xs height es
all_events_made xs height es n l h = record {
  only = h.only;
  all = λ i s x f g m. h.all i s x (omega (arith, slice_get_within xs i x f)) f g m;
}
