-- Lists: where an item stands, and what filters leave.
use Rattle.std.proofs.lemmas.List.{take_all}
use Rattle.std.proofs.Common.{◌≡◌, ℕ, zero, suc, ◌+◌, ◌<◌, ◌≤◌, get_or, take, Bool, true, false, cond, List, [], ◌∷◌, ◌++◌, length, filter, Some, All, ◌⊎◌, inl, inr, ap, sym, refl, ◌∙◌, subst, arith}
use Rattle.std.specs.Prelude.{Contains as IsAmong}
use Rattle.std.specs.List.{slice_get, Any}
use Rattle.std.proofs.lemmas.List.Elements.{All-append, All-cons, All-head, All-more, All-nil, All-tail, Contains-append_left, Contains-append_right}
use Rattle.std.proofs.lemmas.Option.{none-some, slice_get-get_or, slice_get_within, get_or_from_slice_get, same_Some}
use Rattle.lpis_edge_sums.proofs.Shared.{all_from, any_found, filter_kept, found_any}

-- the item at a place of a list is among its items
pub among_at : {A : Type 0} (xs : List A) (k : ℕ) (x : A) → slice_get xs k ≡ Some x → IsAmong xs x
among_at xs k x e = (k, slice_get_within xs k x e, get_or_from_slice_get xs k x x e)

-- a place at which the list has the item
pub record Placed {A : Type 0} (xs : List A) (x : A) : Type 0 where
  pub index : ℕ
  pub at : slice_get xs index ≡ Some x

-- an item that is among those of a list has a place in it
pub place_of_item : {A : Type 0} (xs : List A) (x : A) → IsAmong xs x → Placed xs x
place_of_item xs x h = record { index = h.0; at = slice_get-get_or xs h.0 x h.1 ∙ ap Some h.2 }

-- what holds of each item that is among those of a list
pub all_among : {A : Type 0} (P : A → Type 0) (xs : List A) → ((x : A) → IsAmong xs x → P x) → All P xs
all_among P xs h = all_from P xs (λ k x e. h x (among_at xs k x e))

-- a list has an item with a property where its front part has one
pub any_left : {A : Type 0} (P : A → Type 0) (xs ys : List A) → Any P xs → Any P (xs ++ ys)
any_left P xs ys a =
    let f = any_found P xs a in
    let p = place_of_item (xs ++ ys) f.item (Contains-append_left xs ys f.item (among_at xs f.index f.item f.at)) in
    found_any P (xs ++ ys) (record { index = p.index; item = f.item; at = p.at; has = f.has })

-- a list has an item with a property where its back part has one
pub any_right : {A : Type 0} (P : A → Type 0) (xs ys : List A) → Any P ys → Any P (xs ++ ys)
any_right P xs ys a =
    let f = any_found P ys a in
    let p = place_of_item (xs ++ ys) f.item (Contains-append_right xs ys f.item (among_at ys f.index f.item f.at)) in
    found_any P (xs ++ ys) (record { index = p.index; item = f.item; at = p.at; has = f.has })

-- a list has an item at each place below its length
pub item_at : {A : Type 0} (xs : List A) (i : ℕ) → i < length xs → (x : A) × (slice_get xs i ≡ Some x)
item_at [] i l = absurd (omega arith)
item_at (x ∷ xs) zero l = (x, refl)
item_at (x ∷ xs) (suc i) l = item_at xs i (omega arith)

-- an item of a list with one more is one of the list, or the last
pub front_or_last : {A : Type 0} (xs : List A) (x : A) (i : ℕ) (y : A) → slice_get (xs ++ x ∷ []) i ≡ Some y → (slice_get xs i ≡ Some y) ⊎ ((i ≡ length xs) × (y ≡ x))
front_or_last [] x zero y e = inr (refl, sym (same_Some x y e))
front_or_last [] x (suc i) y e = absurd (none-some y e)
front_or_last (z ∷ xs) x zero y e = inl e
front_or_last {A} (z ∷ xs) x (suc i) y e = by (front_or_last xs x i y e)
  where
    by : (slice_get xs i ≡ Some y) ⊎ ((i ≡ length xs) × (y ≡ x)) → (slice_get xs i ≡ Some y) ⊎ ((suc i ≡ suc (length xs)) × (y ≡ x))
    by (inl f) = inl f
    by (inr l) = inr (ap suc l.0, l.1)

-- what holds of each item of a list, and of one more, holds of each with that one at the end
pub all_snoc : {A : Type 0} (P : A → Type 0) (xs : List A) (x : A) → All P xs → P x → All P (xs ++ x ∷ [])
all_snoc P xs x a h = All-append P xs (x ∷ []) a (All-cons P x [] h (All-nil P))

-- ---- filters
-- no test is both true and false
pub not_both : (b : Bool) → b ≡ true → b ≡ false → ⊥
not_both b e f = cc

-- what a filter lets through is in what it leaves
pub into_filter : {A : Type 0} (q : A → Bool) (xs : List A) (k : ℕ) (x : A) → slice_get xs k ≡ Some x → q x ≡ true → Placed (filter q xs) x
into_filter q [] k x e t = absurd (none-some x e)
into_filter {A} q (y ∷ ys) zero x e t = subst (λ (b : Bool). Placed (cond b (y ∷ filter q ys) (filter q ys)) x) (sym (ap q (same_Some y x e) ∙ t)) (record { index = 0; at = e })
into_filter {A} q (y ∷ ys) (suc k) x e t = by (q y) (into_filter q ys k x e t)
  where
    by : (b : Bool) → Placed (filter q ys) x → Placed (cond b (y ∷ filter q ys) (filter q ys)) x
    by true r = record { index = suc r.index; at = r.at }
    by false r = r

-- a filter that lets no item through leaves nothing
pub filter_none : {A : Type 0} (q : A → Bool) (xs : List A) → All (λ x. q x ≡ false) xs → filter q xs ≡ []
filter_none q [] h = refl
filter_none {A} q (x ∷ xs) h = ap (λ (b : Bool). cond b (x ∷ filter q xs) (filter q xs)) (All-head (λ y. q y ≡ false) x xs h) ∙ filter_none q xs (All-tail (λ y. q y ≡ false) x xs h)

-- a second filter that lets through what the first does
pub filter_both : {A : Type 0} (q s : A → Bool) → ((x : A) → q x ≡ true → s x ≡ true) → (xs : List A) → filter q (filter s xs) ≡ filter q xs
filter_both q s h [] = refl
filter_both {A} q s h (x ∷ xs) = by (s x) (q x) refl (h x) (filter_both q s h xs)
  where
    by : (c b : Bool) → q x ≡ b → (b ≡ true → c ≡ true) → filter q (filter s xs) ≡ filter q xs → filter q (cond c (x ∷ filter s xs) (filter s xs)) ≡ cond b (x ∷ filter q xs) (filter q xs)
    by true b e k r = ap (λ (t : Bool). cond t (x ∷ filter q (filter s xs)) (filter q (filter s xs))) e ∙ ap (λ (ys : List A). cond b (x ∷ ys) ys) r
    by false true e k r = absurd (not_both false (k refl) refl)
    by false false e k r = r

-- and one that lets through nothing that the first does
pub filter_neither : {A : Type 0} (q s : A → Bool) → ((x : A) → q x ≡ true → s x ≡ false) → (xs : List A) → filter q (filter s xs) ≡ []
filter_neither {A} q s h xs = filter_none q (filter s xs) (all_from (λ x. q x ≡ false) (filter s xs) (λ k x e. let w = filter_kept s xs k x e in by x (q x) refl w.passes))
  where
    by : (x : A) (b : Bool) → q x ≡ b → s x ≡ true → q x ≡ false
    by x true e t = absurd (not_both (s x) t (h x e))
    by x false e t = e

-- ---- loops
-- what holds of each of the first i items, and of the item at i, holds of each of the first i + 1
pub one_more_holds : {A : Type 0} (P : A → Type 0) (xs : List A) (i : ℕ) (x : A) → i < length xs → x ≡ get_or xs i x → P x → All P (take i xs) → All P (take (i + 1) xs)
one_more_holds P xs i x l e h a = All-more P xs i x l a (subst P e h)

-- what holds of each of the first i items holds of all, where there are no more than i
pub all_hold_at_end : {A : Type 0} (P : A → Type 0) (xs : List A) (i : ℕ) → length xs ≤ i → All P (take i xs) → All P xs
all_hold_at_end P xs i l a = subst (All P) (take_all i xs l) a
