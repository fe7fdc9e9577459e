-- The indices of a parcel's pieces, and what stands there.
use Rattle.std.proofs.Common.{◌≡◌, ◌≤◌, ◌<◌, ◌+◌, ◌++◌, ◌∷◌, [], ℕ, zero, suc, List, length, map, get_or, filter, Bool, true, false, cond, Option, Some, refl, sym, ap, subst, ◌∙◌, arith, append_assoc}
use Rattle.std.proofs.Common.{All, option_map, slice_get, unwrap_or}
use Rattle.lpis_release.proofs.Common.{Class, Piece, indices_where, Contents, names_parcel, reference_faults}
use Rattle.lpis_release.specs.declared.parcel.Parcel.{Parcel}
use Rattle.std.proofs.lemmas.List.{length-append}
use Rattle.std.proofs.lemmas.Slice.Eq.{bytes_eq-Decides}
use Rattle.lpis_tables.specs.declared.fault.TableFault.{TableFault}
use Rattle.lpis_tables.specs.Ids.{has_id}
use Rattle.lpis_release.specs.Weighted.{class_named, piece_percent}
use Rattle.lpis_release.specs.private.Groups.{at_indices}
use Rattle.lpis_release.specs.Release.{parcel_ids, unknown_faults}

item-here : {A : Type 0} (front : List A) (x : A) (xs : List A) (i : ℕ) → i ≡ length front → slice_get (front ++ x ∷ xs) i ≡ Some x
item-here [] x xs i e = rw e refl
item-here (y ∷ ys) x xs i e = rw e (item-here ys x xs (length ys) refl)

filter-step : {A : Type 0} (test : A → Bool) (whole : List A) (x : A) (xs : List A) (i : ℕ) (b : Bool) → slice_get whole i ≡ Some x → at_indices whole (indices_where test (i + 1) xs) ≡ filter test xs
    → at_indices whole (cond b (i ∷ indices_where test (i + 1) xs) (indices_where test (i + 1) xs)) ≡ cond b (x ∷ filter test xs) (filter test xs)
filter-step {A = A} test whole x xs i true at h = rw at (ap (λ (l : List A). x ∷ l) h)
filter-step test whole x xs i false at h = h

-- the items at the indices of those that pass a test are those that pass
at-indices-from : {A : Type 0} (test : A → Bool) (front xs : List A) (i : ℕ) → i ≡ length front → at_indices (front ++ xs) (indices_where test i xs) ≡ filter test xs
at-indices-from test front [] i e = refl
at-indices-from {A = A} test front (x ∷ xs) i e =
    let next : i + 1 ≡ length (front ++ x ∷ []) = rw (length-append front (x ∷ [])) (omega arith) in
    let rest = at-indices-from test (front ++ x ∷ []) xs (i + 1) next in
    filter-step test (front ++ x ∷ xs) x xs i (test x) (item-here front x xs i e)
    (subst (λ (l : List A). at_indices l (indices_where test (i + 1) xs) ≡ filter test xs) (append_assoc front (x ∷ []) xs) rest)

-- the items at the indices of those that pass a test are the items that pass
pub at-indices-where : {A : Type 0} (test : A → Bool) (xs held : List A) (indices : List ℕ) → held ≡ xs → indices ≡ indices_where test 0 xs → at_indices held indices ≡ filter test xs
at-indices-where test xs held indices e p = rw (e, p) (at-indices-from test [] xs 0 refl)

-- indices are within the list, and no more than its items
indices-few : {A : Type 0} (test : A → Bool) (i : ℕ) (xs : List A) → length (indices_where test i xs) ≤ length xs
indices-few test i [] = omega arith
indices-few test i (x ∷ xs) = by (test x) _ (indices-few test (i + 1) xs) where
  by : (b : Bool) (ps : List ℕ) → length ps ≤ length xs → length (cond b (i ∷ ps) ps) ≤ suc (length xs)
  by true ps h = omega (arith, h)
  by false ps h = omega (arith, h)

within-step : (b : Bool) (i n : ℕ) (ps : List ℕ) → i < n → ((k d : ℕ) → k < length ps → get_or ps k d < n) → (k d : ℕ) → k < length (cond b (i ∷ ps) ps) → get_or (cond b (i ∷ ps) ps) k d < n
within-step true i n ps h rest zero d lt = h
within-step true i n ps h rest (suc k) d lt = rest k d (omega arith)
within-step false i n ps h rest k d lt = rest k d lt

indices-within : {A : Type 0} (test : A → Bool) (i n : ℕ) (xs : List A) → i + length xs ≤ n → (k d : ℕ) → k < length (indices_where test i xs) → get_or (indices_where test i xs) k d < n
indices-within test i n [] h k d lt = absurd (omega arith)
indices-within test i n (x ∷ xs) h k d lt = within-step (test x) i n _ (omega arith) (indices-within test (i + 1) n xs (omega arith)) k d lt

-- the indices of items that pass a test are no more than the items
pub few-indices : {A : Type 0} (test : A → Bool) (xs : List A) (indices : List ℕ) → indices ≡ indices_where test 0 xs → length indices ≤ length xs
few-indices test xs indices e = rw e (indices-few test 0 xs)

-- each index of an item that passes a test is within the list
pub within-indices : {A : Type 0} (test : A → Bool) (xs : List A) (indices : List ℕ) → indices ≡ indices_where test 0 xs → All (λ i. i < length xs) indices
within-indices test xs indices e = rw e (indices-within test 0 (length xs) xs (omega arith))

-- an identifier that is no parcel's has no pieces
none-left : (a b : List TableFault) → a ++ b ≡ [] → a ≡ []
none-left [] b h = refl
none-left (x ∷ xs) b h = cc h

none-right : (a b : List TableFault) → a ++ b ≡ [] → b ≡ []
none-right [] b h = h
none-right (x ∷ xs) b h = cc h

known : (parcels : List Parcel) (classes : List Class) (n : ℕ) (p : Piece) → unknown_faults parcels classes n p ≡ [] → has_id (parcel_ids parcels) p.parcel ≡ true
known parcels classes n p h = by (has_id (parcel_ids parcels) p.parcel) refl where
  by : (b : Bool) → has_id (parcel_ids parcels) p.parcel ≡ b → has_id (parcel_ids parcels) p.parcel ≡ true
  by true e = e
  by false e = cc (rw e at h)

-- where no piece has an unknown parcel or class, none names an identifier that is no parcel's
pub absent-none : (parcels : List Parcel) (classes : List Class) (n i : ℕ) (pieces : List Piece) (id : List ℕ)
    → reference_faults parcels classes n pieces ≡ [] → has_id (parcel_ids parcels) id ≡ false
    → indices_where (names_parcel id) i pieces ≡ []
absent-none parcels classes n i [] id h s = refl
absent-none parcels classes n i (p ∷ ps) id h s =
    let more = absent-none parcels classes (n + 1) (i + 1) ps id (none-right (unknown_faults parcels classes n p) _ h) s in
    let other : names_parcel id p ≡ false = by (names_parcel id p) refl (known parcels classes n p (none-left _ _ h)) in
    rw other more
  where
    by : (b : Bool) → names_parcel id p ≡ b → has_id (parcel_ids parcels) p.parcel ≡ true → names_parcel id p ≡ false
    by true e k = absurd (let same : id ≡ p.parcel = (bytes_eq-Decides id p.parcel).0 e in let there : has_id (parcel_ids parcels) id ≡ true = rw same k in cc)
    by false e k = e

-- where the faults of pieces and further faults are none, the pieces have none
pub first-faults : (parcels : List Parcel) (classes : List Class) (pieces : List Piece) (others : List TableFault)
    → reference_faults parcels classes 1 pieces ++ others ≡ [] → reference_faults parcels classes 1 pieces ≡ []
first-faults parcels classes pieces others h = none-left _ others h

-- the class of the piece at an index
class-of-index : (classes : List Class) (indices : List ℕ) (pieces : List Piece) (i j : ℕ) (piece : Piece)
    → map (slice_get classes) indices ≡ map (λ (p : Piece). class_named classes p.class) pieces
    → slice_get pieces i ≡ Some piece → j ≡ get_or indices i j → slice_get classes j ≡ class_named classes piece.class
class-of-index classes [] [] i j piece e at is = cc at
class-of-index classes (q ∷ qs) (p ∷ ps) zero j piece e at is =
    let same : p ≡ piece = cc at in
    let first : slice_get classes q ≡ class_named classes p.class = cc e in
    ap (slice_get classes) is ∙ first ∙ ap (λ (p : Piece). class_named classes p.class) same
class-of-index classes (q ∷ qs) (p ∷ ps) (suc i) j piece e at is = class-of-index classes qs ps i j piece (cc e) at is
class-of-index classes _ _ i j piece e at is = cc e

-- going over the items at indices
pub others-within : (n p : ℕ) (indices ps : List ℕ) → indices ≡ p ∷ ps → All (λ i. i < n) indices → All (λ i. i < n) ps
others-within n p indices ps e h = let all : All (λ i. i < n) (p ∷ ps) = subst (λ (l : List ℕ). All (λ i. i < n) l) e h in λ k d lt. all (suc k) d (omega arith)

-- the items at indices are the item at the first index, and then those at the others
pub next-at : {A : Type 0} (xs now : List A) (indices ps : List ℕ) (p : ℕ) (x : A) → at_indices xs indices ≡ now → indices ≡ p ∷ ps → slice_get xs p ≡ Some x → now ≡ x ∷ at_indices xs ps
next-at xs now indices ps p x e is at = rw (← e, is, at) refl

-- the percentage of a class that is found
abbrev class_percent : Option Class → ℕ
class_percent found = unwrap_or (option_map (λ (k : Class). k.percent) found) 0

-- the percentage of the class at a piece's class index is the percentage of the piece
pub percent-of-index : (held c : Contents) (indices : List ℕ) (i j : ℕ) (piece : Piece) (found : Option Class) → held ≡ c
    → map (slice_get held.classes) indices ≡ map (λ (p : Piece). class_named held.classes p.class) held.pieces
    → slice_get c.pieces i ≡ Some piece → j ≡ get_or indices i j → slice_get held.classes j ≡ found → class_percent found ≡ piece_percent c.classes piece
percent-of-index held c indices i j piece found same e at is there =
    let class = class-of-index held.classes indices held.pieces i j piece e (rw same at) is in
    ap class_percent (sym there ∙ class) ∙ ap (λ (r : Contents). piece_percent r.classes piece) same
