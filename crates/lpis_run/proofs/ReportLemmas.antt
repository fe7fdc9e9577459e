-- The texts of items, an item at a time.
use Rattle.std.proofs.Common.{◌≡◌, ◌<◌, ◌+◌, ◌++◌, ◌∷◌, [], ℕ, List, Option, length, subst, take, get_or, sym, ap, ◌∙◌, flat_map}
use Rattle.lpis_run.proofs.Common.{Appends, appends-more}
use Rattle.std.proofs.lemmas.Grind.{flat_map-append}
use Rattle.std.proofs.lemmas.List.{append-nil, take_more}

-- the texts of items, and one item's more
pub flat_map-push : {A B : Type 0} (f : A → List B) (xs : List A) (x : A) → flat_map f xs ++ f x ≡ flat_map f (xs ++ x ∷ [])
flat_map-push {A} {B} f xs x = sym (flat_map-append f xs (x ∷ []) ∙ ap (λ (t : List B). flat_map f xs ++ t) (append-nil (f x)))

-- the texts so far, and one item's more
pub text-goes-on : {A : Type 0} (f : A → List ℕ) (ks : List A) (i : ℕ) (k d : A) (start now next : Option (List ℕ)) → i < length ks → k ≡ get_or ks i d
    → Appends start now (flat_map f (take i ks)) → Appends now next (f k) → Appends start next (flat_map f (take (i + 1) ks))
text-goes-on {A} f ks i k d start now next lt is so_far this =
    let items = sym (take_more ks i d lt ∙ ap (λ (x : A). take i ks ++ x ∷ []) (sym is)) in
    subst (Appends start next) (flat_map-push f (take i ks) k ∙ ap (flat_map f) items) (appends-more start now next (flat_map f (take i ks)) (f k) so_far this)
