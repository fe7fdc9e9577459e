-- What holds of each element of a list that a loop has come by.
use Rattle.std.proofs.Common.{◌≡◌, ◌+◌, ◌<◌, ◌≤◌, All, ℕ, List, get_or, length, subst, take}
use Rattle.std.proofs.lemmas.List.{take_all}
use Rattle.std.proofs.lemmas.List.Elements.{All-more}

-- what holds of the first elements and of the next holds of all of these
pub one-more : {A : Type 0} (P : A → Type 0) (xs : List A) (i : ℕ) (x : A) → i < length xs → x ≡ get_or xs i x → P x → All P (take i xs) → All P (take (i + 1) xs)
one-more P xs i x l e h a = All-more P xs i x l a (subst P e h)

-- what holds of the first elements holds of all, where there are no more
pub all-at-end : {A : Type 0} (P : A → Type 0) (xs : List A) (i : ℕ) → length xs ≤ i → All P (take i xs) → All P xs
all-at-end P xs i l a = subst (All P) (take_all i xs l) a
