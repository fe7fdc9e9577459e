-- A list whose elements are taken one after the other.
use Rattle.std.proofs.Common.{◌≡◌, ◌∙◌, ◌++◌, ◌∷◌, [], List, ap, append-nil, append_assoc, arith, length, refl, sym}
use Rattle.lpis_register_rows.proofs.Common.{AllByRecursion}

nothing_left : {X : Type 0} (l : List X) → length l ≡ 0 → l ≡ []
nothing_left [] h = refl
nothing_left (x ∷ xs) h = absurd (omega arith)

-- what is left of a list once one more is read
pub one_read : {X : Type 0} (read left next all : List X) (x : X) → left ≡ x ∷ next → read ++ left ≡ all → (read ++ x ∷ []) ++ next ≡ all
one_read read left next all x steps so_far = append_assoc read (x ∷ []) next ∙ ap (λ l. read ++ l) (sym steps) ∙ so_far

-- what was read is the whole list once nothing is left
pub all_read : {X : Type 0} (read left all : List X) → length left ≡ 0 → read ++ left ≡ all → read ≡ all
all_read read left all none so_far = sym (append-nil read) ∙ ap (λ l. read ++ l) (sym (nothing_left left none)) ∙ so_far

-- what each element has, one in the middle has
pub in_middle : {X : Type 0} (P : X → Type 0) (before : List X) (x : X) (after : List X) → AllByRecursion P (before ++ x ∷ after) → P x
in_middle P [] x after all = all.0
in_middle P (y ∷ before) x after all = in_middle P before x after all.1
