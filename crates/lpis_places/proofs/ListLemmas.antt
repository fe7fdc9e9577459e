-- Items of lists, their places, and what a loop over a list has shown so far.
use Rattle.std.proofs.Common.{◌≡◌, ℕ, zero, suc, ◌+◌, ◌<◌, ◌≤◌, Bool, true, false, cond, List, [], ◌∷◌, length, filter, get_or, take, Some, All, ap, sym, ◌∙◌, subst}
use Rattle.std.specs.Prelude.{Contains as IsAmong}
use Rattle.std.specs.List.{slice_get}
use Rattle.std.proofs.lemmas.List.{take_all}
use Rattle.std.proofs.lemmas.List.Elements.{All-more}
use Rattle.std.proofs.lemmas.Option.{get_or_from_slice_get, none-some, same_Some, slice_get-get_or, slice_get_within}
use Rattle.lpis_edge_sums.proofs.Shared.{all_from}

-- what stands at an index is among the items
pub among_at : {A : Type 0} (xs : List A) (k : ℕ) (x : A) → slice_get xs k ≡ Some x → IsAmong xs x
among_at xs k x e = (k, slice_get_within xs k x e, get_or_from_slice_get xs k x x e)

-- a place at which the list has the item
pub record Placed {A : Type 0} (xs : List A) (x : A) : Type 0 where
  pub index : ℕ
  pub at : slice_get xs index ≡ Some x

-- an item among those of a list has a place
pub place_of_item : {A : Type 0} (xs : List A) (x : A) → IsAmong xs x → Placed xs x
place_of_item xs x h = record { index = h.0; at = slice_get-get_or xs h.0 x h.1 ∙ ap Some h.2 }

-- what holds of each item that is among those of a list
pub all_among : {A : Type 0} (P : A → Type 0) (xs : List A) → ((x : A) → IsAmong xs x → P x) → All P xs
all_among P xs h = all_from P xs (λ k x e. h x (among_at xs k x e))

-- an item that a test lets through has a place among those that it does
pub into_filter : {A : Type 0} (q : A → Bool) (xs : List A) (k : ℕ) (x : A) → slice_get xs k ≡ Some x → q x ≡ true → Placed (filter q xs) x
into_filter q [] k x e t = absurd (none-some x e)
into_filter {A} q (y ∷ ys) zero x e t = subst (λ (b : Bool). Placed (cond b (y ∷ filter q ys) (filter q ys)) x) (sym (ap q (same_Some y x e) ∙ t)) (record { index = 0; at = e })
into_filter {A} q (y ∷ ys) (suc k) x e t = by (q y) (into_filter q ys k x e t)
  where
    by : (b : Bool) → Placed (filter q ys) x → Placed (cond b (y ∷ filter q ys) (filter q ys)) x
    by true r = record { index = suc r.index; at = r.at }
    by false r = r

-- what holds of each of the first i items, and of the item at i, holds of each of the first i + 1
pub one_more_holds : {A : Type 0} (P : A → Type 0) (xs : List A) (i : ℕ) (x : A) → i < length xs → x ≡ get_or xs i x → P x → All P (take i xs) → All P (take (i + 1) xs)
one_more_holds P xs i x l e h a = All-more P xs i x l a (subst P e h)

-- what holds of each of the first i items holds of all, where there are no more than i
pub all_hold_at_end : {A : Type 0} (P : A → Type 0) (xs : List A) (i : ℕ) → length xs ≤ i → All P (take i xs) → All P xs
all_hold_at_end P xs i l a = subst (All P) (take_all i xs l) a
