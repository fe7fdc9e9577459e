-- Lists of parcels and of identifiers.
use Rattle.std.proofs.Common.{◌≡◌, ℕ, Bool, true, false, cond, ◌||◌, List, [], ◌∷◌, ◌++◌, filter, None, Some, is_some, refl, ap, ap₂, sym, ◌∙◌, true≢false}
use Rattle.std.specs.List.{AllByRecursion, IsDistinct, find, slice_get}
use Rattle.std.proofs.lemmas.Map.Keys.{IsDistinct-head, IsDistinct-tail, IsDistinct-cons}
use Rattle.std.specs.Cmp.Lexicographic.{bytes_decides}
use Rattle.lpis_tables.specs.Ids.{has_id, same_id}
use Rattle.lpis_release.specs.declared.parcel.Parcel.{Parcel}
use Rattle.lpis_release.specs.Release.{parcel_ids}

-- no test is both true and false
pub not-both : (b : Bool) → b ≡ true → b ≡ false → ⊥
not-both b e f = true≢false (sym e ∙ f)

-- ---- identifiers
same-turned : (a b : List ℕ) → same_id a b ≡ false → same_id b a ≡ false
same-turned a b e = by (same_id b a) refl
  where
    by : (t : Bool) → same_id b a ≡ t → same_id b a ≡ false
    by true f = absurd (not-both (same_id a b) ((bytes_decides a b).1 (sym ((bytes_decides b a).0 f))) e)
    by false f = f

-- the test of two identifiers answers the same with the two exchanged
pub same-sym : (a b : List ℕ) → same_id a b ≡ same_id b a
same-sym a b = by (same_id a b) refl
  where
    by : (t : Bool) → same_id a b ≡ t → t ≡ same_id b a
    by true e = sym ((bytes_decides b a).1 (sym ((bytes_decides a b).0 e)))
    by false e = sym (same-turned a b e)

-- the parcel has this identifier
abbrev pub is_of : List ℕ → Parcel → Bool
is_of id k = same_id id k.id

-- the identifier is none of these
abbrev pub Differ : List ℕ → List (List ℕ) → Type 0
Differ id ids = AllByRecursion (λ (y : List ℕ). same_id id y ≡ false) ids

-- a parcel is found exactly where its identifier is there
pub has-found : (id : List ℕ) (ps : List Parcel) → has_id (parcel_ids ps) id ≡ is_some (find (is_of id) ps)
has-found id [] = refl
has-found id (p ∷ ps) = by (same_id id p.id) (has-found id ps)
  where
    by : (b : Bool) → has_id (parcel_ids ps) id ≡ is_some (find (is_of id) ps) → (b || has_id (parcel_ids ps) id) ≡ is_some (cond b (Some p) (find (is_of id) ps))
    by true h = refl
    by false h = h

-- no parcel is found by an identifier that none of them has
pub none-found : (id : List ℕ) (ps : List Parcel) → Differ id (parcel_ids ps) → find (is_of id) ps ≡ None
none-found id [] d = refl
none-found id (p ∷ ps) d = ap (λ (b : Bool). cond b (Some p) (find (is_of id) ps)) d.0 ∙ none-found id ps d.1

-- what is found is there, with the identifier
pub record IsFound (id : List ℕ) (ps : List Parcel) (k : Parcel) : Type 0 where
  pub before : List Parcel
  pub after : List Parcel
  pub at : ps ≡ before ++ k ∷ after
  pub own : k.id ≡ id

-- an identifier that stands after others that all differ is none of them
pub apart-before : (xs : List (List ℕ)) (y : List ℕ) (ys : List (List ℕ)) → IsDistinct same_id (xs ++ y ∷ ys) → has_id xs y ≡ false
apart-before [] y ys d = refl
apart-before (x ∷ xs) y ys d = ap₂ ◌||◌ (same-turned x y (at xs (IsDistinct-head same_id x (xs ++ y ∷ ys) d))) (apart-before xs y ys (IsDistinct-tail same_id x (xs ++ y ∷ ys) d))
  where
    at : (zs : List (List ℕ)) → Differ x (zs ++ y ∷ ys) → same_id x y ≡ false
    at [] h = h.0
    at (z ∷ zs) h = at zs h.1

-- where no identifier of parcels stands twice, none does among those that a filter leaves
pub distinct-filter : (q : Parcel → Bool) (ps : List Parcel) → IsDistinct same_id (parcel_ids ps) → IsDistinct same_id (parcel_ids (filter q ps))
distinct-filter q [] h = h
distinct-filter q (p ∷ ps) h = by (q p) (distinct-filter q ps (IsDistinct-tail same_id p.id (parcel_ids ps) h))
  where
    kept : (qs : List Parcel) → Differ p.id (parcel_ids qs) → Differ p.id (parcel_ids (filter q qs))
    kept [] d = d
    kept (r ∷ rs) d = next (q r) (kept rs d.1)
      where
        next : (b : Bool) → Differ p.id (parcel_ids (filter q rs)) → Differ p.id (parcel_ids (cond b (r ∷ filter q rs) (filter q rs)))
        next true k = (d.0, k)
        next false k = k

    by : (b : Bool) → IsDistinct same_id (parcel_ids (filter q ps)) → IsDistinct same_id (parcel_ids (cond b (p ∷ filter q ps) (filter q ps)))
    by true k = IsDistinct-cons same_id p.id (parcel_ids (filter q ps)) (kept ps (IsDistinct-head same_id p.id (parcel_ids ps) h)) k
    by false k = k

-- ---- lists with no faults
-- a list with a first item is not empty
pub cons-nil : {A : Type 0} (x : A) (xs : List A) → x ∷ xs ≡ [] → ⊥
cons-nil x xs e = cc

-- where two lists together are empty, the first one is
pub nil-left : {A : Type 0} (xs ys : List A) → xs ++ ys ≡ [] → xs ≡ []
nil-left [] ys e = refl
nil-left (x ∷ xs) ys e = absurd (cons-nil x (xs ++ ys) e)

-- where two lists together are empty, the second one is
pub nil-right : {A : Type 0} (xs ys : List A) → xs ++ ys ≡ [] → ys ≡ []
nil-right {A} xs ys e = sym (ap (λ (zs : List A). zs ++ ys) (nil-left xs ys e)) ∙ e

-- the first of a list
pub head-is : {A : Type 0} (xs : List A) (x : A) → slice_get xs 0 ≡ Some x → (more : List A) × (xs ≡ x ∷ more)
head-is {A} [] x e = absurd cc
head-is {A} (y ∷ ys) x e = (ys, ap (λ (z : A). z ∷ ys) (same-item e))
  where
    same-item : Some y ≡ Some x → y ≡ x
    same-item h = cc

-- a list without an item at its first place is empty
pub no-head : {A : Type 0} (xs : List A) → slice_get xs 0 ≡ None → xs ≡ []
no-head [] e = refl
no-head (y ∷ ys) e = absurd (an-item e)
  where
    an-item : Some y ≡ None → ⊥
    an-item h = cc
