-- The pairs that a sweep has joined so far.
use Rattle.std.proofs.Common.{◌≡◌, ℕ, ◌+◌, ◌-◌, ◌<◌, ◌≤◌, true, ◌||◌, List, [], ◌∷◌, ◌++◌, length, Some, ◌⊎◌, inl, inr, sym, ◌∙◌, subst, arith, Contains, slice_get}
use Rattle.lpis_pairs.proofs.Common.{same_Some, slice_get_within, Triangle, Event, IsNear}
use Rattle.std.proofs.lemmas.List.Elements.{All-push, Contains-append_left}
use Rattle.lpis_pairs.specs.private.Sweeping.{AreBehind, AreInOrder, GrowNear, IsTaken, Joins, JoinsAcross, JoinsAll, JoinsFar, StartsAt, width_of}

-- each pair of the first list is in the second
abbrev pub Keeps : List (ℕ × ℕ) → List (ℕ × ℕ) → Type 0
Keeps ps qs = (p : ℕ × ℕ) → Contains ps p → Contains qs p

-- what stands from a place on and before m is joined with an event
pub record JoinsUpTo (ts : List Triangle) (e : Event) (es : List Event) (old new : List (ℕ × ℕ)) (from m : ℕ) : Type 0 where
  pub grows : GrowNear ts old new
  pub found : (k : ℕ) → from ≤ k → k < m → Joins ts e es new k

-- a near pair comes to the pairs
pub grows_by : (ts : List Triangle) (ps : List (ℕ × ℕ)) (p : ℕ × ℕ) → IsNear ts p.0 p.1 → GrowNear ts ps (ps ++ p ∷ [])
grows_by ts ps p near = record {
  kept = λ q h. Contains-append_left ps (p ∷ []) q h;
  near = λ h. All-push (λ (q : ℕ × ℕ). IsNear ts q.0 q.1) ps p h near;
}

-- the same pairs are none more
pub grows_by_nothing : (ts : List Triangle) (ps : List (ℕ × ℕ)) → GrowNear ts ps ps
grows_by_nothing ts ps = record { kept = λ p h. h; near = λ h. h }

-- a pair that is taken stays so
pub taken_kept : (ts : List Triangle) (ps qs : List (ℕ × ℕ)) (i j : ℕ) → Keeps ps qs → IsTaken ts ps i j → IsTaken ts qs i j
taken_kept ts ps qs i j h r = (λ n. h _ (r.0 n), λ n. h _ (r.1 n))

-- the pairs that grew grow on
pub grows_on : (ts : List Triangle) (old ps qs : List (ℕ × ℕ)) → GrowNear ts old ps → GrowNear ts ps qs → GrowNear ts old qs
grows_on ts old ps qs g h = record { kept = λ p c. h.kept p (g.kept p c); near = λ a. h.near (g.near a) }

joins_kept : (ts : List Triangle) (e : Event) (es : List Event) (ps qs : List (ℕ × ℕ)) (m : ℕ) → Keeps ps qs → Joins ts e es ps m → Joins ts e es qs m
joins_kept ts e es ps qs m h j = λ f i l o. taken_kept ts ps qs e.index f.index h (j f i l o)

-- the event m is joined, where it has to be
pub joined_next : (ts : List Triangle) (e : Event) (es : List Event) (old ps qs : List (ℕ × ℕ)) (from m : ℕ)
    → JoinsUpTo ts e es old ps from m → GrowNear ts ps qs → Joins ts e es qs m
    → JoinsUpTo ts e es old qs from (m + 1)
joined_next ts e es old ps qs from m h g j = record {
  grows = grows_on ts old ps qs h.grows g;
  found = λ i l r. by_case i l (grind arith);
}
  where
    by_case : (i : ℕ) → from ≤ i → (i < m) ⊎ (i ≡ m) → Joins ts e es qs i
    by_case i l (inl r) = joins_kept ts e es ps qs i g.kept (h.found i l r)
    by_case i l (inr eq) = subst (λ (v : ℕ). Joins ts e es qs v) (sym eq) j

-- the second event, as the code reads it
pub joins_read : (ts : List Triangle) (e : Event) (es : List Event) (qs : List (ℕ × ℕ)) (m : ℕ) (f : Event) → slice_get es m ≡ Some f
    → (f.key - e.key < width_of (slice_get ts e.index) → (e.starts || f.starts) ≡ true → IsTaken ts qs e.index f.index) → Joins ts e es qs m
joins_read ts e es qs m f h j = λ f' h'. rw (← same_Some f f' (sym h ∙ h')) j

-- where the event m begins where the first has ended, so does each behind it
none_behind : (ts : List Triangle) (e : Event) (es : List Event) (qs : List (ℕ × ℕ)) (m k : ℕ) (f : Event) → AreInOrder es
    → e.key ≤ f.key → m ≤ k → slice_get es m ≡ Some f → (f.key - e.key < width_of (slice_get ts e.index) → ⊥) → Joins ts e es qs k
none_behind ts e es qs m k f order l r h stop = λ f' h' j o. absurd (by_case f' h' j (grind arith))
  where
    nearer : (a b c w : ℕ) → a ≤ b → b ≤ c → c - a < w → b - a < w
    nearer a b c w l m r = omega arith

    by_case : (f' : Event) → slice_get es k ≡ Some f' → f'.key - e.key < width_of (slice_get ts e.index) → (m < k) ⊎ (k ≡ m) → ⊥
    by_case f' h' j (inl s) = stop (nearer e.key f.key f'.key _ l (order m k f f' s h h') j)
    by_case f' h' j (inr s) =
        let q : f' ≡ f = same_Some f' f (sym (subst (λ (v : ℕ). slice_get es v ≡ Some f') s h') ∙ h) in
        stop (subst (λ (x : Event). x.key - e.key < width_of (slice_get ts e.index)) q j)

-- the walk ends at m, as nothing behind is met
pub found_all : (ts : List Triangle) (e : Event) (es : List Event) (old qs : List (ℕ × ℕ)) (from m : ℕ) (f : Event) → AreInOrder es
    → e.key ≤ f.key → slice_get es m ≡ Some f → (f.key - e.key < width_of (slice_get ts e.index) → ⊥)
    → JoinsUpTo ts e es old qs from m → (k : ℕ) → from ≤ k → Joins ts e es qs k
found_all ts e es old qs from m f order l h stop j k r = by_case (grind arith)
  where
    by_case : (k < m) ⊎ (m ≤ k) → Joins ts e es qs k
    by_case (inl s) = j.found k r s
    by_case (inr s) = none_behind ts e es qs m k f order l s h stop

-- the walk ends at the end
pub found_to_end : (ts : List Triangle) (e : Event) (es : List Event) (old qs : List (ℕ × ℕ)) (from m : ℕ)
    → length es ≤ m → JoinsUpTo ts e es old qs from m → (k : ℕ) → from ≤ k → Joins ts e es qs k
found_to_end ts e es old qs from m l j k r = λ f h. j.found k r (omega (arith, slice_get_within es k f h)) f h

-- the events below n are joined with those behind them
pub record JoinsBelow (ts : List Triangle) (es : List Event) (old new : List (ℕ × ℕ)) (n : ℕ) : Type 0 where
  pub grows : GrowNear ts old new
  pub found : (k m : ℕ) (e : Event) → k < n → k < m → slice_get es k ≡ Some e → Joins ts e es new m

-- with the event n joined with all behind it, the events below n + 1 are joined
pub joins_one_more : (ts : List Triangle) (es : List Event) (old ps qs : List (ℕ × ℕ)) (n : ℕ) (e : Event) → slice_get es n ≡ Some e
    → JoinsBelow ts es old ps n → GrowNear ts ps qs → ((m : ℕ) → n + 1 ≤ m → Joins ts e es qs m) → JoinsBelow ts es old qs (n + 1)
joins_one_more ts es old ps qs n e at h g j = record {
  grows = grows_on ts old ps qs h.grows g;
  found = λ i m d l r f. by_case i m d r f (grind arith);
}
  where
    by_case : (i m : ℕ) (d : Event) → i < m → slice_get es i ≡ Some d → (i < n) ⊎ (i ≡ n) → Joins ts d es qs m
    by_case i m d r f (inl l) = joins_kept ts d es ps qs m g.kept (h.found i m d l r f)
    by_case i m d r f (inr eq) =
        let same : e ≡ d = same_Some e d (sym at ∙ subst (λ (v : ℕ). slice_get es v ≡ Some d) eq f) in
        subst (λ (x : Event). Joins ts x es qs m) same (j m (omega arith))

-- past the last event, each event is joined with each behind it
pub joins_all : (ts : List Triangle) (es : List Event) (old ps : List (ℕ × ℕ)) (n : ℕ) → length es ≤ n → JoinsBelow ts es old ps n → JoinsAll ts es ps
joins_all ts es old ps n l h k m e r f = h.found k m e (omega (arith, slice_get_within es k e f)) r f

-- ---- two lists
-- the events below n are joined with those of the other list that are far enough behind them
pub record AcrossBelow (ts : List Triangle) (es fs : List Event) (gap : ℕ) (old new : List (ℕ × ℕ)) (n : ℕ) : Type 0 where
  pub grows : GrowNear ts old new
  pub found : (k : ℕ) (e : Event) → k < n → slice_get es k ≡ Some e → (m : ℕ) → JoinsFar ts e fs gap new m

-- what is joined from where the far ones start is joined with these
far_joined : (ts : List Triangle) (e : Event) (fs : List Event) (gap bound from : ℕ) (qs : List (ℕ × ℕ)) → bound ≤ e.key + gap
    → StartsAt fs bound from → ((m : ℕ) → from ≤ m → Joins ts e fs qs m) → (m : ℕ) → JoinsFar ts e fs gap qs m
far_joined ts e fs gap bound from qs l s j m f at far = j m (s.before m f at (omega arith)) f at

-- one event more
pub across_one_more : (ts : List Triangle) (es fs : List Event) (gap bound from : ℕ) (old ps qs : List (ℕ × ℕ)) (n : ℕ) (e : Event)
    → slice_get es n ≡ Some e → bound ≤ e.key + gap → StartsAt fs bound from → AcrossBelow ts es fs gap old ps n → GrowNear ts ps qs
    → ((m : ℕ) → from ≤ m → Joins ts e fs qs m) → AcrossBelow ts es fs gap old qs (n + 1)
across_one_more ts es fs gap bound from old ps qs n e at b s h g j = record {
  grows = grows_on ts old ps qs h.grows g;
  found = λ i d l f m. by_case i d f m (grind arith);
}
  where
    by_case : (i : ℕ) (d : Event) → slice_get es i ≡ Some d → (m : ℕ) → (i < n) ⊎ (i ≡ n) → JoinsFar ts d fs gap qs m
    by_case i d f m (inl l) = λ x w r y o. taken_kept ts ps qs d.index x.index g.kept (h.found i d l f m x w r y o)
    by_case i d f m (inr eq) =
        let same : e ≡ d = same_Some e d (sym at ∙ subst (λ (v : ℕ). slice_get es v ≡ Some d) eq f) in
        subst (λ (x : Event). JoinsFar ts x fs gap qs m) same (far_joined ts e fs gap bound from qs b s j m)

-- past the last event, each is joined
pub across_all : (ts : List Triangle) (es fs : List Event) (gap : ℕ) (old ps : List (ℕ × ℕ)) (n : ℕ) → length es ≤ n
    → AcrossBelow ts es fs gap old ps n → JoinsAcross ts es fs gap ps
across_all ts es fs gap old ps n l h k e f = h.found k e (omega (arith, slice_get_within es k e f)) f

-- what is joined stays so
pub across_kept : (ts : List Triangle) (es fs : List Event) (gap : ℕ) (ps qs : List (ℕ × ℕ)) → Keeps ps qs → JoinsAcross ts es fs gap ps → JoinsAcross ts es fs gap qs
across_kept ts es fs gap ps qs keeps h k e f m x w r y o = taken_kept ts ps qs e.index x.index keeps (h k e f m x w r y o)

-- what starts at a key no less is behind
pub behind_bound : (fs : List Event) (key bound from : ℕ) → key ≤ bound → StartsAt fs bound from → AreBehind key fs from
behind_bound fs key bound from l s = λ m f r at. reaches (s.behind m f r at)
  where
    reaches : {x : ℕ} → bound ≤ x → key ≤ x
    reaches b = omega arith
