-- Calls that make statements in a loop, and the transaction that is theirs.
use Rattle.std.proofs.Common.{true, ◌≡◌, ◌++◌, ◌+◌, ◌<◌, ◌∷◌, ◌∙◌, [], ℕ, List, Ok, Err, Result, IfErr, IsTrue, IsErrAnd, ap, arith, drop, get_or, length, map, refl, subst, sym, take}
use Rattle.std.specs.List.{flat_map}
use Rattle.std.proofs.Math.Seq.{take-length}
use Rattle.std.proofs.lemmas.Grind.{flat_map-append}
use Rattle.std.proofs.lemmas.List.{append-nil, append_assoc, map-append, map_more, take-append-drop, take_more}
use Rattle.sqlite.specs.Held.{Held}
use Rattle.sqlite_trees.specs.declared.store.Store as store
use Rattle.lpis_register_sql.specs.Stopping.{BoundStatement, StopsWithin}
use Rattle.lpis_register_sql.specs.Within.{Makes}
use Rattle.lpis_register_sql.proofs.Common.{Error, HasCleanDisk, Survives, state}
use Rattle.lpis_register_sql.proofs.StopLemmas.{fails, stops_still, then}

-- what is made of the first items and of one more
parts_are : {X : Type 0} (f : X → List BoundStatement) (xs : List X) (i : ℕ) (d x : X) → i < length xs → x ≡ get_or xs i d → flat_map f (take i xs) ++ f x ≡ flat_map f (take (i + 1) xs)
parts_are f xs i d x low is = ap (λ y. flat_map f (take i xs) ++ f y) is
    ∙ sym (ap (flat_map f) (take_more xs i d low) ∙ flat_map-append f (take i xs) (get_or xs i d ∷ []) ∙ ap (λ l. flat_map f (take i xs) ++ l) (append-nil (f (get_or xs i d))))

module _ {S : Type 0} {g : store.Ghosts S} where
  -- ---- a loop

  -- statements that stop it are of all
  pub loop_fails : {xs ys : List BoundStatement} (left all : List BoundStatement) {a b c : Held S} {x : Unit {0}} {e : Error} {r : Result (Unit {0}) Error} → IsErrAnd r (λ x. x ≡ e)
      → xs ++ (ys ++ left) ≡ all → Makes g xs a b (Ok x) → Makes g ys b c (Err e) → Makes g all a c r
  loop_fails left all {a = a} {c = c} {r = r} is of_all done stop = subst (λ l. Makes g l a c r) of_all (then done (fails left is stop))

  module _ {X : Type 0} (f : X → BoundStatement) (xs : List X) (i : ℕ) (d x : X) (low : i < length xs) (is : x ≡ get_or xs i d) where
    -- the statement of one item more
    pub makes_item : {a b c : Held S} {y z : Unit {0}} → Makes g (map f (take i xs)) a b (Ok y) → Makes g (f x ∷ []) b c (Ok z) → Makes g (map f (take (i + 1) xs)) a c (Ok z)
    makes_item {a = a} {c = c} {z = z} done more =
        subst (λ l. Makes g l a c (Ok z)) (ap (λ y. map f (take i xs) ++ f y ∷ []) is ∙ sym (map_more f xs i d low)) (then done more)

    -- which stops
    pub item_fails : {a b c : Held S} {y : Unit {0}} {e : Error} {r : Result (Unit {0}) Error} → IsErrAnd r (λ y. y ≡ e) → Makes g (map f (take i xs)) a b (Ok y) → Makes g (f x ∷ []) b c (Err e)
        → Makes g (map f xs) a c r
    item_fails same done stop = loop_fails (map f (drop (i + 1) xs)) (map f xs) same
        (sym (append_assoc (map f (take i xs)) (f x ∷ []) (map f (drop (i + 1) xs)))
        ∙ ap (λ l. l ++ map f (drop (i + 1) xs)) (ap (λ y. map f (take i xs) ++ f y ∷ []) is ∙ sym (map_more f xs i d low))
        ∙ sym (map-append f (take (i + 1) xs) (drop (i + 1) xs)) ∙ ap (map f) (take-append-drop (i + 1) xs)) done stop

  -- and its end
  pub makes_all : {X : Type 0} (f : X → BoundStatement) (xs : List X) (i : ℕ) {a b : Held S} {x : Unit {0}} → i ≡ length xs → Makes g (map f (take i xs)) a b (Ok x) → Makes g (map f xs) a b (Ok x)
  makes_all f xs i {a = a} {b = b} {x = x} ends made = subst (λ ys. Makes g (map f ys) a b (Ok x)) (ap (λ n. take n xs) ends ∙ take-length xs) made

  -- ---- the same where an item has more than one statement, or none

  module _ {X : Type 0} (f : X → List BoundStatement) (xs : List X) (i : ℕ) (d x : X) (low : i < length xs) (is : x ≡ get_or xs i d) where
    -- the statements of one item more
    pub part_made : {a b c : Held S} {y z : Unit {0}} → Makes g (flat_map f (take i xs)) a b (Ok y) → Makes g (f x) b c (Ok z) → Makes g (flat_map f (take (i + 1) xs)) a c (Ok z)
    part_made {a = a} {c = c} {z = z} done more = subst (λ l. Makes g l a c (Ok z)) (parts_are f xs i d x low is) (then done more)

    -- which stop
    pub part_fails : {a b c : Held S} {y : Unit {0}} {e : Error} {r : Result (Unit {0}) Error} → IsErrAnd r (λ y. y ≡ e) → Makes g (flat_map f (take i xs)) a b (Ok y) → Makes g (f x) b c (Err e)
        → Makes g (flat_map f xs) a c r
    part_fails same done stop = loop_fails (flat_map f (drop (i + 1) xs)) (flat_map f xs) same
        (sym (append_assoc (flat_map f (take i xs)) (f x) (flat_map f (drop (i + 1) xs))) ∙ ap (λ l. l ++ flat_map f (drop (i + 1) xs)) (parts_are f xs i d x low is)
        ∙ sym (flat_map-append f (take (i + 1) xs) (drop (i + 1) xs)) ∙ ap (flat_map f) (take-append-drop (i + 1) xs)) done stop

  -- and their end
  pub all_made : {X : Type 0} (f : X → List BoundStatement) (xs : List X) (i : ℕ) {a b : Held S} {x : Unit {0}} → i ≡ length xs → Makes g (flat_map f (take i xs)) a b (Ok x)
      → Makes g (flat_map f xs) a b (Ok x)
  all_made f xs i {a = a} {b = b} {x = x} ends made = subst (λ ys. Makes g (flat_map f ys) a b (Ok x)) (ap (λ n. take n xs) ends ∙ take-length xs) made

-- ---- a transaction

module _ {S : Type 0} (g : store.Ghosts S) (held first end new : Held S) (begun : first ≡ record held { in_transaction = true }) (same : end ≡ new) where
  seen_outside : (Q : Held S → Held S → Type 0) → (IsTrue (state g first).is_open → IsTrue first.in_transaction → HasCleanDisk (state g end) → Q first end)
      → IsTrue (state g held).is_open → HasCleanDisk (state g new) → Q (record held { in_transaction = true }) new
  seen_outside Q h up clean = subst (Q (record held { in_transaction = true })) same (subst (λ x. Q x end) begun
      (h (subst (λ x. IsTrue (state g x).is_open) (sym begun) up) (subst (λ x. IsTrue x.in_transaction) (sym begun) refl) (subst (λ x. HasCleanDisk (state g x)) (sym same) clean)))

module _ {S : Type 0} {g : store.Ghosts S} {xs : List BoundStatement} (held : Held S) {first last end new : Held S} (begun : first ≡ record held { in_transaction = true }) (same : end ≡ new) where
  -- its statements failed, and it is dropped
  pub undone_stops : {e : Error} (r : Result (Unit {0}) Error) → IsErrAnd r (λ x. x ≡ e) → Makes g xs first last (Err e) → Survives (state g last) (state g end) (λ _. ⊥)
      → IsTrue (state g held).is_open → HasCleanDisk (state g new) → IfErr r (StopsWithin g xs (record held { in_transaction = true }) new)
  undone_stops (Ok _) is made drops = λ up clean. tt
  undone_stops {e = e} (Err y) is made drops = seen_outside g held first end new begun same (λ a b. StopsWithin g xs a b y)
      (λ up within clean. subst (StopsWithin g xs first end) (sym is) (stops_still g xs first last end e drops.counts (made.ends (omega (arith, drops.clean)) up within)))
