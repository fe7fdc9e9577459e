-- Sums of whole numbers over lists.
use Rattle.std.specs.Prelude.{ℤ, pos, ◌+ℤ◌, List, [], ◌∷◌}

-- the sum of what a function gives for each item
abbrev pub int_sum_by : {A : Type 0} → (A → ℤ) → List A → ℤ
int_sum_by f [] = pos 0
int_sum_by f (x ∷ xs) = f x +ℤ int_sum_by f xs
